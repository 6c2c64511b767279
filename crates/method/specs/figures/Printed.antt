-- What is printed, as text: one row of each kind, and the whole output of the starred session. Assumes nothing.
use Rattle.std.specs.Prelude.{[], ◌∷◌, ◌≡◌, refl, pos, negsuc}
use Rattle.method.specs.words.Types.{Down, Field, TableReason, EventReason, steps, seconds}
use Rattle.method.specs.words.Wire.{word, signed, bit}
use Rattle.method.specs.words.Layout.{header_of, key_at, contract_at, keys_at, contracts_at}
use Rattle.method.specs.words.Growth.{between_keys, rate_from, rate_by_keys, rate_at, exponent, term, series, outer_part, up_factor, down_factor, factors_of}
use Rattle.method.specs.words.Bounds.{factor, interest, outward, bound}
use Rattle.method.specs.words.Opening.{normal_price, half_width, market_of, half_move, terms_of, corridor_half, corridor, floored, fresh_line}
use Rattle.method.specs.words.Tables.{opening_state}
use Rattle.method.specs.words.Pressure.{close, presses}
use Rattle.method.specs.told.Types.{Row}
use Rattle.method.specs.told.Refusals.{table_number, field_place, field_number, event_number}
use Rattle.method.specs.told.Questions.{listed}
use Rattle.method.specs.told.Rows.{rows_of, rows_from, closing_row}
use Rattle.method.specs.told.Program.{pieces}
use Rattle.method.specs.told.Text.{ascii, decimal_in, line_text, text_of}
use Rattle.method.specs.computed.Opening.{field_good, first_bad, id_good, inside_bounds, opened_with, open_line}
use Rattle.method.specs.computed.Table.{header_good, laid_out, key_good, bad_key, open_lines, open_records, opening}
use Rattle.method.specs.computed.Head.{most_left}
use Rattle.method.specs.computed.Judge.{judged, judge, judge_line}
use Rattle.method.specs.computed.Shift.{moved, redrawn, moved_line, shift_line, shifted, after}
use Rattle.method.specs.computed.Event.{read_tick, read_quote, read, in_session, not_crossed, quote_answer, screened, verdict, quoted_line, quoted, applied, next}
use Rattle.method.specs.computed.Search.{due_of, ahead, sooner, passed, earliest, in_time, next_due, serve, served_by, answer, run, finally}
use Rattle.method.specs.computed.Program.{session_rows, rows_after, program, output}
use Rattle.method.specs.figures.Inputs.{sample, tick, empty, bid}

-- One row of each kind; among their numbers are the largest id, negative ones and 0.
pub every_kind :
    text_of
    (Row.Shift (record { second = seconds 61; side = Down; id = 4_294_967_295 })
    ∷ Row.RefusedEvent EventReason.Malformed 3
    ∷ Row.RefusedTable TableReason.Corridor 2
    ∷ Row.RefusedTable (TableReason.Field Field.Width) 19
    ∷ Row.Closed (record { id = 3; lower = steps (negsuc 64); upper = steps (pos 45); lowerbound = steps (negsuc 121); upperbound = steps (pos 0) })
    ∷ [])
    ≡ ascii "61 D 4294967295\nR 12\nT 9 2\nT 5 19 7\n3 -65 45 -122 0\n"
unfolding decimal_in line_text table_number field_place field_number event_number
every_kind = refl

-- The starred session (METHOD 25.11): two shifts, and where its one contract stands at the end.
pub starred_output : output (sample 1_000 2 (7 ∷ []) (bid 10 7 1_046 (tick 69 (tick 70 (bid 100 7 1_093 (empty 200 7 (bid 210 7 1_150 (tick 1_000 [])))))))) ≡ ascii "70 U 7\n160 U 7\n7 950 1150 900 1200\n"
unfolding decimal_in line_text word signed bit table_number field_place field_number event_number between_keys rate_from rate_by_keys rate_at exponent term series outer_part up_factor down_factor factors_of factor interest outward bound field_good first_bad listed id_good normal_price half_width market_of half_move terms_of corridor_half corridor inside_bounds floored fresh_line opened_with open_line header_of key_at contract_at keys_at contracts_at header_good laid_out key_good bad_key opening_state open_lines open_records opening close presses judged judge judge_line moved redrawn moved_line shift_line most_left shifted after read_tick read_quote read in_session not_crossed quote_answer screened verdict quoted_line quoted applied next due_of ahead sooner passed earliest in_time next_due serve served_by answer run finally rows_of rows_from closing_row session_rows pieces rows_after program
starred_output = refl
