-- Each kind of row has its line.
use Rattle.std.proofs.Common.{rules, sym}
use Rattle.text.proofs.Putting.{put_as}
use Rattle.text.proofs.Telling.{by_kind}
use Rattle.text.proofs.line.Goals as goal

pub returns-in-Shift-clause-put : goal.returns-in-Shift-clause-put
returns-in-Shift-clause-put c = put_as (sym (by_kind c.args.row (search rules) c.from.ensures c.in-Shift.is)) c.shift.ensures.put

pub returns-in-RefusedEvent-clause-put : goal.returns-in-RefusedEvent-clause-put
returns-in-RefusedEvent-clause-put c = put_as (sym (by_kind c.args.row (search rules) c.from.ensures c.in-RefusedEvent.is)) c.refused_event.ensures.put

pub returns-in-RefusedTable-clause-put : goal.returns-in-RefusedTable-clause-put
returns-in-RefusedTable-clause-put c = put_as (sym (by_kind c.args.row (search rules) c.from.ensures c.in-RefusedTable.is)) c.refused_table.ensures.put

pub returns-in-Closing-clause-put : goal.returns-in-Closing-clause-put
returns-in-Closing-clause-put c = put_as (sym (by_kind c.args.row (search rules) c.from.ensures c.in-Closing.is)) c.closing.ensures.put
