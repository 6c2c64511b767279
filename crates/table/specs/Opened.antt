-- What the code hands back for the method's answer to a table: its lines and the header's numbers, or the refusal with its line.
use Rattle.std.specs.Prelude.{Result, Ok, Err, ℕ}
use Rattle.method.specs.words.Tables.{Opening, opened, refused}
use Rattle.table.specs.Names.{TableReason, TableRefusal}
use Rattle.table.specs.declared.OpenedTable.{OpenedTable}

abbrev pub refusal : TableReason → ℕ → TableRefusal
refusal why line = record { reason = why; line = line }

unfoldable pub opened_as : Opening → Result OpenedTable TableRefusal
opened_as (opened s) =
    Ok (record {
      lines = record { items = s.lines };
      end = s.end;
      hold = s.hold;
      most = s.left;
      near = s.near;
    })
opened_as (refused why line) = Err (refusal why line)
