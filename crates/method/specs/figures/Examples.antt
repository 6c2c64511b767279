-- Where the rules admitted two readings: the examples A1 to A5, A8, A10 to A14 (refusals and printing), B1 to B9 and B11 (holds and shifts),
-- D8 and D11's empty quote (ticks and repeated quotes) of docs/DECISIONS.md, with a few more and the questions: one table under one claim. A
-- shift line is its second, its side (0 up, 1 down) and its id. Assumes nothing.
use Rattle.std.specs.Prelude.{List, [], ◌∷◌, ◌++◌, map, ◌≡◌, refl, ℕ, zero, suc, ℤ, pos, negsuc, take, drop, Some}
use Rattle.method.specs.words.Types.{Contract, Up, Down, Line, steps, millionths, State}
use Rattle.method.specs.words.Wire.{word, signed, bit}
use Rattle.method.specs.words.Layout.{header_of, key_at, contract_at, table_length, keys_at, contracts_at}
use Rattle.method.specs.words.Growth.{between_keys, rate_from, rate_by_keys, rate_at, exponent, term, series, outer_part, up_factor, down_factor, factors_of}
use Rattle.method.specs.words.Bounds.{factor, interest, outward, bound}
use Rattle.method.specs.words.Opening.{normal_price, half_width, market_of, half_move, terms_of, corridor_half, corridor, floored, fresh_line}
use Rattle.method.specs.words.Tables.{Opening, opened, refused, opening_state}
use Rattle.method.specs.words.Pressure.{close, presses}
use Rattle.method.specs.told.Refusals.{table_number, field_place, field_number, event_number, Said, event_said, mark, limits_said, place_said}
use Rattle.method.specs.told.Questions.{listed, line_of, limits, placed, place}
use Rattle.method.specs.told.Rows.{rows_of, rows_from, closing_row, row_numbers, numbers_of}
use Rattle.method.specs.told.Program.{pieces, events_of}
use Rattle.method.specs.computed.Opening.{field_good, first_bad, id_good, inside_bounds, opened_with, open_line}
use Rattle.method.specs.computed.Table.{header_good, laid_out, key_good, bad_key, open_lines, open_records, opening}
use Rattle.method.specs.computed.Head.{most_left}
use Rattle.method.specs.computed.Judge.{judged, judge, judge_line}
use Rattle.method.specs.computed.Shift.{moved, redrawn, moved_line, shift_line, shifted, after}
use Rattle.method.specs.computed.Event.{read_tick, read_quote, read, in_session, not_crossed, quote_answer, screened, verdict, quoted_line, quoted, applied, next}
use Rattle.method.specs.computed.Search.{due_of, ahead, sooner, passed, earliest, in_time, next_due, serve, served_by, answer, run, finally}
use Rattle.method.specs.computed.Program.{session_rows, rows_after, program}
use Rattle.method.specs.figures.Inputs.{bytes, sample_fields, table, sample, thirty, event, tick, empty, bid, ask, fields, contract, key, line, raw_lower, of_line, bounds, both_limits, shifted_down, table_refusal, refusals, shifts, Figure, figure}

abbrev both : List ℕ
both = 7 ∷ 8 ∷ []

abbrev one : List ℕ
one = 7 ∷ []

-- the shift lines that are to come, and the input: session end, most shifts, ids, events
abbrev example : List ℕ → ℕ → ℕ → List ℕ → List ℕ → Figure
example lines end most ids events = figure (map pos lines) (shifts (program (sample end most ids events)))

-- an upward shift of id 7 at each of these seconds
abbrev ups : List ℕ → List ℕ
ups [] = []
ups (t ∷ ts) = t ∷ 0 ∷ 7 ∷ ups ts

-- the answers in the sample session after `70 U 7`, each by its number and its values
abbrev said : List Said → List ℤ
said [] = []
said (x ∷ xs) = (pos x.number ∷ x.values) ++ said xs

abbrev asked_of : (State → List Said) → List (List ℕ) → Opening → List ℤ
asked_of f events (opened s) = said (f (finally s events))
asked_of f events (refused why line) = []

abbrev asked : List ℤ → (State → List Said) → Figure
asked answers f =
    let input : List ℕ = sample 1_000 2 one (bid 10 7 1_046 (tick 70 [])) in
    let size : ℕ = table_length (header_of input) in
    figure answers (asked_of f (events_of (drop size input)) (opening (take size input)))

-- a contract of P 1,000 with half-width 100, with its spot, width share and days left
abbrev thousand : ℤ → ℕ → ℕ → Contract
thousand spot width days = fields (pos 1_000) spot (pos 1) 100_000 width days 0

-- a contract of which the floor is asked: half-width 30, no negative prices
abbrev low : ℕ → ℕ → Contract
low price width = contract (pos price) (pos 30) 1_000_000 width 0

-- both limits, and whether the lower one is frozen
abbrev standing : Line → List ℤ
standing l = l.limits.upper.0 ∷ l.limits.lower.0 ∷ mark l.limits.frozen ∷ []

abbrev half_moved : Line → List ℤ
half_moved l = l.terms.halfmove.0 ∷ []

-- both limits, and which of four prices press: bids 1,000 and 1,001, asks 1,000 and 999
abbrev zero_width : Line → List ℤ
zero_width l =
    both_limits l
    ++ map mark
    (close Up (millionths 50_000) l.limits (Some (steps (pos 1_000)))
    ∷ close Up (millionths 50_000) l.limits (Some (steps (pos 1_001)))
    ∷ close Down (millionths 50_000) l.limits (Some (steps (pos 1_000)))
    ∷ close Down (millionths 50_000) l.limits (Some (steps (pos 999)))
    ∷ [])

-- the upper interest bound after n up shifts
abbrev risen : ℕ → Line → List ℤ
risen zero l = bound Up l.terms.factors l.market ∷ []
risen (suc n) l = risen n (moved_line Up l)

-- a table of these bytes is refused with this number and line, and names no field; or with 5 on this line, for the field at this place
abbrev refusal : ℕ → ℕ → List ℕ → Figure
refusal number line input = figure (pos number ∷ pos line ∷ pos 0 ∷ []) (table_refusal (opening input))

abbrev at_fault : ℕ → ℕ → List ℕ → Figure
at_fault line field input = figure (pos 5 ∷ pos line ∷ pos field ∷ []) (table_refusal (opening input))

-- a header alone: edition, contracts, keys, session end, and how many of its bytes there are
abbrev header : ℕ → ℕ → ℕ → ℕ → ℕ → List ℕ
header edition contracts keys end size =
    take size (bytes (edition ∷ contracts ∷ 48 ∷ keys ∷ 40 ∷ end ∷ 60 ∷ 2 ∷ 50_000 ∷ 500_000 ∷ 0 ∷ 0 ∷ []))

-- the closing row of the sample contract, not shifted
abbrev one_closed : List ℤ
one_closed = map pos (4 ∷ 7 ∷ 950 ∷ 1_050 ∷ 900 ∷ 1_100 ∷ [])

abbrev pub examples : List Figure
examples =
    -- A1. A half-move of 0 is refused with 8, an exponent over the cap with 7: nothing is clamped.
    figure (map pos (8 ∷ 8 ∷ 1 ∷ []))
    (of_line half_moved (open_line (millionths 1) (key 0) [] (thousand (pos 1_000) 500_000 365))
    ++ of_line half_moved (open_line (millionths 19_999) (key 0) [] (thousand (pos 1_000) 500_000 365))
    ++ of_line half_moved (open_line (millionths 20_000) (key 0) [] (thousand (pos 1_000) 500_000 365)))
    ∷ figure (pos 25 ∷ pos 7 ∷ [])
    (of_line half_moved (line 1_000_000 (thousand (pos 1_000) 500_000 182))
    ++ of_line half_moved (line 1_000_000 (thousand (pos 1_000) 500_000 183)))
    -- A2. The limits are held against their bounds before the floor: a lower limit of -24, its bound -23.
    ∷ figure (negsuc 23 ∷ pos 9 ∷ []) (raw_lower 100_000 (low 10 1_000_000) ++ of_line standing (line 100_000 (low 10 1_000_000)))
    -- A3. A lower limit of exactly 1 is not frozen; a down shift leaves it at 1, frozen.
    ∷ figure (map pos (59 ∷ 1 ∷ 0 ∷ [])) (of_line standing (line 0 (low 30 966_667)))
    ∷ figure (pos 7 ∷ pos 23 ∷ pos 37 ∷ negsuc 13 ∷ pos 1 ∷ pos 1 ∷ []) (of_line shifted_down (line 0 (low 30 966_667)))
    -- A4. The order of a table's refusals: under 40 bytes 1, edition 2, header 3, the rest of 1, a key 4, then contract by contract.
    ∷ refusal 1 0 []
    ∷ refusal 1 0 (header 9 1 1 1_000 39)
    ∷ refusal 2 0 (header 9 1 1 1_000 45)
    ∷ refusal 3 0 (header 1 1 1 0 44)
    ∷ refusal 3 0 (header 1 4_294_967_295 4_294_967_295 1_000 40)
    ∷ refusal 3 0 (header 1 33 1 1_000 40)
    ∷ refusal 3 0 (header 1 1 17 1_000 40)
    ∷ refusal 1 0 (header 1 1 1 1_000 48)
    ∷ refusal 4 1 (table 1_000 2 1 1 (0 ∷ 0 ∷ sample_fields 500_000 7 2 []))
    ∷ refusal 4 2 (table 1_000 2 1 2 (90 ∷ 0 ∷ 90 ∷ 0 ∷ sample_fields 500_000 7 4 []))
    ∷ refusal 9 1 (table 1_000 2 2 1 (365 ∷ 100_000 ∷ sample_fields 1_000_000 7 2 (sample_fields 500_000 8 4 [])))
    ∷ at_fault 2 10 (table 1_000 2 2 1 (365 ∷ 0 ∷ sample_fields 500_000 7 2 (sample_fields 500_000 7 4 [])))
    ∷ refusal 6 2 (table 1_000 2 2 1 (365 ∷ 0 ∷ sample_fields 500_000 7 2 (sample_fields 500_000 7 2 [])))
    ∷ refusal 6 1 (table 1_000 2 1 1 (365 ∷ 0 ∷ sample_fields 500_000 0 2 []))
    -- A5. The order of an event's refusals, the clock at 10. Unknown id before the clock: 11. Flags 8 after the end: 12. Unknown id after the
    -- end: 10. Flags 5: 12. Id 0: 13. Bid equal to ask: taken; above it: 14. A price out of range: 16; one at its end: taken. At session end:
    -- taken; a second later: 10.
    ∷ figure (map pos (11 ∷ 12 ∷ 10 ∷ 12 ∷ 13 ∷ 14 ∷ 16 ∷ 10 ∷ []))
    (refusals
    (program
    (sample 1_000 2 one
    (tick 10
    (bid 5 9 1_000
    (event 2_000 7 8 0 0
    (bid 2_000 9 1_000
    (event 10 7 5 0 0
    (empty 10 0
    (event 10 7 3 1_000 1_000
    (event 10 7 3 1_001 1_000
    (bid 10 7 2_000_000_001
    (ask 10 7 2_000_000_000
    (tick 1_000
    (tick 1_001 [])))))))))))))))
    -- Flags 1, a bid out of range and an ask of 7: 15; with an ask of 0: 16. Flags 5 with both: 12. A tick with a bid: 12. Both 15 and 16 come
    -- before the end, the clock and an unknown id.
    ∷ figure (map pos (15 ∷ 16 ∷ 12 ∷ 12 ∷ 15 ∷ 16 ∷ 16 ∷ []))
    (refusals
    (program
    (sample 1_000 2 one
    (tick 10
    (event 10 7 1 2_100_000_000 7
    (event 10 7 1 2_100_000_000 0
    (event 10 7 5 2_100_000_000 7
    (event 10 0 4 1 0
    (event 2_000 9 0 0 7
    (event 5 9 2 0 2_000_000_001
    (event 10 7 3 2_000_000_001 1_000 [])))))))))))
    -- A8. The end of the input: a hold with no event after it is not served; a cut last event is 12, and the closing row follows.
    ∷ figure one_closed (numbers_of (program (sample 1_000 2 one (bid 10 7 1_046 []))))
    ∷ figure (map pos (2 ∷ 12 ∷ 2 ∷ 0 ∷ 0 ∷ 0 ∷ []) ++ one_closed)
    (numbers_of (program (take 127 (sample 1_000 2 one (bid 10 7 1_046 (tick 70 []))))))
    ∷ figure (map pos (3 ∷ 1 ∷ 0 ∷ 0 ∷ 0 ∷ 0 ∷ [])) (numbers_of (program []))
    -- Closing rows of two contracts, in table order.
    ∷ figure (one_closed ++ map pos (4 ∷ 8 ∷ 950 ∷ 1_050 ∷ 900 ∷ 1_100 ∷ [])) (numbers_of (program (sample 1_000 2 both [])))
    -- A11. Beyond 32 bits: the exponent before its cap, and an upper interest bound after sixteen shifts.
    ∷ figure (pos 10_000_000_000 ∷ []) (pos (exponent 1_000_000 3_650) ∷ [])
    ∷ figure (pos 2_967_698_317 ∷ [])
    (of_line (risen 16) (open_line (millionths 1_000_000) (key 500_000) [] (contract (pos 100_000_000) (pos 1) 1_000_000 0 0)))
    -- A12. The counts say where the table ends: one byte more is a cut event, and to `open` a wrong length; wrong offsets are 1.
    ∷ figure (map pos (2 ∷ 12 ∷ 1 ∷ 0 ∷ 0 ∷ 0 ∷ []) ++ one_closed) (numbers_of (program (sample 1_000 2 one [] ++ (0 ∷ []))))
    ∷ refusal 1 0 (sample 1_000 2 one [] ++ (0 ∷ []))
    ∷ refusal 1 0 (bytes (1 ∷ 1 ∷ 52 ∷ 1 ∷ 44 ∷ 1_000 ∷ 60 ∷ 2 ∷ 50_000 ∷ 500_000 ∷ 365 ∷ 0 ∷ sample_fields 500_000 7 2 []))
    -- A13. Frozen at opening: limits 37 and 1; its bound falls from -20 to -34.
    ∷ figure (map pos (37 ∷ 1 ∷ 1 ∷ 40 ∷ []) ++ (negsuc 19 ∷ []))
    (of_line standing (line 0 (low 10 900_000)) ++ of_line bounds (line 0 (low 10 900_000)))
    ∷ figure (pos 7 ∷ pos 3 ∷ pos 37 ∷ negsuc 33 ∷ pos 1 ∷ pos 1 ∷ []) (of_line shifted_down (line 0 (low 10 900_000)))
    -- A14. Zero width: both limits are P; only a bid above or an ask below presses.
    ∷ figure (map pos (1_000 ∷ 1_000 ∷ 0 ∷ 1 ∷ 0 ∷ 1 ∷ [])) (of_line zero_width (line 0 (thousand (pos 1_000) 0 365)))
    -- A line that is not under watch never holds.
    ∷ figure [] (shifts (program (table 1_000 2 1 1 (365 ∷ 0 ∷ sample_fields 500_000 7 0 (bid 10 7 2_000_000_000 (tick 1_000 []))))))
    -- A spot below zero counts by its size: the half-width is 100.
    ∷ figure (map pos (1_100 ∷ 900 ∷ [])) (of_line bounds (line 0 (thousand (negsuc 999) 500_000 365)))
    -- B1. Same side, same second: 8's hold ends with 7's shift and starts anew.
    ∷ example (ups (70 ∷ 130 ∷ [])) 1_000 16 both (bid 10 7 1_200 (bid 10 8 1_200 (tick 130 [])))
    -- B2. A younger hold of the shifted side ends too: 130 U 8, not 100 U 8.
    ∷ example (70 ∷ 0 ∷ 7 ∷ 130 ∷ 0 ∷ 8 ∷ []) 1_000 16 both (bid 10 7 1_060 (bid 40 8 1_400 (tick 130 [])))
    -- B3. Both sides, same second: up before down, whatever the lines.
    ∷ example (70 ∷ 0 ∷ 8 ∷ 70 ∷ 1 ∷ 7 ∷ []) 1_000 16 both (bid 10 8 1_200 (ask 10 7 900 (tick 70 [])))
    -- B4. Several shifts in a gap: pressure is judged anew from the shift's second, not the event's.
    ∷ example (ups (70 ∷ 130 ∷ 190 ∷ [])) 1_000 16 one (bid 10 7 2_000_000_000 (tick 200 []))
    -- B5. A hold due at session end is never served; a second before it is.
    ∷ example [] 1_000 16 one (bid 940 7 1_046 (tick 1_000 []))
    ∷ example (ups (999 ∷ [])) 1_000 16 one (bid 939 7 1_046 (tick 1_000 []))
    ∷ example
    (ups (70 ∷ 130 ∷ 190 ∷ 250 ∷ 310 ∷ 370 ∷ 430 ∷ 490 ∷ 550 ∷ 610 ∷ 670 ∷ 730 ∷ 790 ∷ 850 ∷ 910 ∷ []))
    960 16 one (bid 10 7 2_000_000_000 (tick 960 []))
    -- B6. A quote at the due second: served first.
    ∷ example (ups (70 ∷ [])) 1_000 16 one (bid 10 7 1_046 (empty 70 7 (tick 1_000 [])))
    -- B7. New pressure on the other side, since the shift has widened the zone: 8's down hold starts at 70.
    ∷ example (70 ∷ 0 ∷ 7 ∷ 130 ∷ 1 ∷ 8 ∷ []) 1_000 16 both (bid 10 7 1_046 (ask 20 8 956 (tick 130 [])))
    -- B8. The most shifts in the middle: all holds vanish at once, also those due at the same second. Most 0: no hold ever.
    ∷ example (70 ∷ 0 ∷ 8 ∷ []) 1_000 1 both (bid 10 8 1_200 (ask 10 7 900 (tick 1_000 [])))
    ∷ example [] 1_000 0 one (bid 10 7 2_000_000_000 (tick 1_000 []))
    -- B9. Ending and starting in one second: pressure had ended, so the hold starts at 30.
    ∷ example (ups (90 ∷ [])) 1_000 16 one (bid 10 7 1_046 (empty 30 7 (bid 30 7 1_046 (tick 89 (tick 90 [])))))
    -- A hold that goes on keeps its start, under a quote that presses too.
    ∷ example (ups (70 ∷ [])) 1_000 16 one (bid 10 7 1_046 (bid 40 7 1_047 (tick 70 [])))
    -- D8, D11. An empty quote on the empty book, ticks and repeated bids, on the due second too: the line is the same without and with them.
    ∷ example (ups (70 ∷ [])) 1_000 16 one (bid 10 7 1_046 (empty 90 7 []))
    ∷ example (ups (70 ∷ [])) 1_000 16 one (empty 5 7 (bid 10 7 1_046 (tick 30 (bid 40 7 1_046 (bid 70 7 1_046 (tick 80 (empty 90 7 [])))))))
    -- A last event that is added may serve what no event served before it.
    ∷ example [] 1_000 16 one (bid 10 7 1_046 [])
    ∷ example (ups (70 ∷ [])) 1_000 16 one (bid 10 7 1_046 (tick 70 []))
    -- A quote that is late after a tick is taken where the tick is left out, and ends the pressure.
    ∷ example (ups (70 ∷ [])) 1_000 16 one (bid 10 7 1_046 (tick 70 (bid 50 7 1_000 (empty 90 7 []))))
    ∷ example [] 1_000 16 one (bid 10 7 1_046 (bid 50 7 1_000 (empty 90 7 [])))
    -- a bid of 1045 at 10 stands 5 from the limit, which is not near
    ∷ example [] 1_000 2 one (bid 10 7 1_045 (tick 1_000 []))
    -- B11. A frozen line: `70 D 7`, its lower limit 1; ask 0 starts no hold; it still presses up, `150 U 7`; at the end `7 1 71 -14 74`.
    ∷ figure (map pos (1 ∷ 70 ∷ 1 ∷ 7 ∷ 0 ∷ 0 ∷ 1 ∷ 150 ∷ 0 ∷ 7 ∷ 0 ∷ 0 ∷ 4 ∷ 7 ∷ 1 ∷ 71 ∷ []) ++ (negsuc 13 ∷ pos 74 ∷ []))
    (numbers_of (program (thirty (ask 10 7 3 (ask 80 7 0 (bid 90 7 57 (tick 1_000 [])))))))
    -- A10. The questions: limits 950 and 1,100, not frozen; 13 of an id that is not in the table; a price on a limit is inside.
    ∷ asked (map pos (0 ∷ 950 ∷ 1_100 ∷ 0 ∷ 13 ∷ 13 ∷ []))
    (λ s. limits_said (limits 7 s) ∷ limits_said (limits 8 s) ∷ limits_said (limits 0 s) ∷ [])
    ∷ asked (pos 0 ∷ negsuc 0 ∷ map pos (0 ∷ 0 ∷ 0 ∷ 0 ∷ 0 ∷ 1 ∷ 13 ∷ []))
    (λ s.
    place_said (place 7 (steps (pos 949)) s)
    ∷ place_said (place 7 (steps (pos 950)) s)
    ∷ place_said (place 7 (steps (pos 1_100)) s)
    ∷ place_said (place 7 (steps (pos 1_101)) s)
    ∷ place_said (place 8 (steps (pos 1_000)) s)
    ∷ [])
    -- What an event of no bytes would be refused with, and that a tick at the clock's second would be taken.
    ∷ asked (pos 12 ∷ pos 0 ∷ []) (λ s. event_said (verdict s (read [])) ∷ event_said (verdict s (read (bytes (tick 70 [])))) ∷ [])
    ∷ []

-- Every example is what the definitions give.
pub examples_claim : map (λ f. f.computed) examples ≡ map (λ f. f.printed) examples
unfolding word signed bit table_number field_place field_number between_keys rate_from rate_by_keys rate_at exponent term series outer_part up_factor down_factor factors_of factor interest outward bound field_good first_bad listed id_good normal_price half_width market_of half_move terms_of corridor_half corridor inside_bounds floored fresh_line opened_with open_line header_of key_at contract_at keys_at contracts_at header_good laid_out key_good bad_key opening_state open_lines open_records opening close presses judged judge judge_line moved redrawn moved_line shift_line most_left shifted after read_tick read_quote read in_session not_crossed quote_answer screened verdict quoted_line quoted applied next due_of ahead sooner passed earliest in_time next_due serve served_by answer run finally rows_of rows_from closing_row session_rows pieces rows_after program row_numbers event_number event_said limits_said place_said line_of limits placed place
examples_claim = refl
