-- The letter, the number, the line and the field, where one is named, stand in the buffer one after another.
use Rattle.std.proofs.Common.{rules, arith}
use Rattle.text.specs.Line.{number}
use Rattle.text.proofs.Putting.{put_on, put_back}
use Rattle.text.proofs.Signs.{is-so, is-not}
use Rattle.text.proofs.refused_table.Goals as goal

pub returns-then-field-eq-NO_FIELD-clause-put : goal.returns-then-field-eq-NO_FIELD-clause-put
returns-then-field-eq-NO_FIELD-clause-put c =
    let row = c.args.row in
    let line = put_back (number row 2) 10 (search rules) c.put_number.ensures.put in
    let why = put_on (put_back (number row 1) 32 (search rules) c.put_number-after_why.ensures.put) (omega arith) line in
    rw (is-so (number row 3) 0 (omega arith) (record { sfits = search rules }) c.if-field-eq-NO_FIELD.true) (put_on c.put-after_letter.ensures (omega arith) why)

pub returns-else-field-eq-NO_FIELD-clause-put : goal.returns-else-field-eq-NO_FIELD-clause-put
returns-else-field-eq-NO_FIELD-clause-put c =
    let row = c.args.row in
    let field = put_back (number row 3) 10 (search rules) c.put_number-else-field-eq-NO_FIELD.ensures.put in
    let line = put_on (put_back (number row 2) 32 (search rules) c.put_number-after_place.ensures.put) (omega arith) field in
    let why = put_on (put_back (number row 1) 32 (search rules) c.put_number-after_why.ensures.put) (omega arith) line in
    rw (is-not (number row 3) 0 c.if-field-eq-NO_FIELD.false) (put_on c.put-after_letter.ensures (omega arith) why)
