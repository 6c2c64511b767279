-- What a host that asks is told, in numbers.
use Rattle.std.specs.Prelude.{cond, List, eqb, ℤ, pos, negsuc, Ok, Err}
use Rattle.method.specs.declared.Place.TheVariants.{Below, Inside, Above}
use Rattle.method.specs.told.Types.{PlaceAnswer, ReportAnswer}
use Rattle.method.specs.told.Refusals.{Said, event_number}
use Rattle.host_report.specs.ReportRows.{report_rows}

-- the values of an answer, where nothing is refused
abbrev pub told_into : List ℤ → Said → List ℤ
told_into out said = cond (eqb said.number 0) said.values out

-- below -1, inside 0, above 1, or the refusal's number
abbrev pub place_number : PlaceAnswer → ℤ
place_number (Ok Below) = negsuc 0
place_number (Ok Inside) = pos 0
place_number (Ok Above) = pos 1
place_number (Err why) = pos (event_number why)

-- the rows of an answer, where nothing is refused
abbrev pub report_into : List (List ℤ) → ReportAnswer → List (List ℤ)
report_into out (Ok r) = report_rows r
report_into out (Err why) = out
