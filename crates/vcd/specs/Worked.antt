-- A worked text, by the definitions.
use Rattle.std.specs.Prelude.{◌≡◌, refl, [], ◌∷◌}
use Rattle.basis.specs.Choose.{choose}
use Rattle.printing.specs.Text.{ascii, digit}
use Rattle.vcd.specs.Form.{header, time_line, value_line, changes_from, vcd_text}

-- Task 1 in slices 0 and 1, task 2 in slice 2, nobody in slice 3.
pub four_slices : vcd_text (1 ∷ 1 ∷ 2 ∷ 0 ∷ [])
    ≡ ascii "$timescale 1 us $end\n$scope module ozhmandil $end\n$var wire 5 ! task $end\n$upscope $end\n$enddefinitions $end\n#0000\nb00001 !\n#0002\nb00010 !\n#0003\nb00000 !\n#0004\n"
unfolding ascii digit choose header time_line value_line changes_from vcd_text
four_slices = refl
