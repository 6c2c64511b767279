-- What the program prints: the texts that its functions make, in the order in which it hands them to write; and that together they are what the
-- method says is written for the whole input.
--
-- The contracts of `answers::chunk`, `answers::closing` and `answers::refusal` name these texts, that of `reading::table_end` the end of the
-- table, and that of `chunks::answer_events` a session that some chunks leave. What is read and what is written is in the contracts too, for an
-- input whose bytes are known: `reading::table` reads up to `table_end`, `filling::fill` the next bytes, fewer than a slice has only at the
-- input's end; `answer_events` cuts all that follows into chunks, and where `answer_whole` answers `Ok` it wrote what the method says is written
-- for the input. Outside of all contracts, and to be read off the code: that an error comes of a failed read or write alone (or after 2^64 - 1
-- chunks), and nothing is written after it; that a chunk's answers are written before the next chunk is read; and that `main` hands over standard
-- input and output, of which nothing is known but what their reads and writes tell, and drops the error.
use Rattle.std.specs.Prelude.{◌≡◌, List, [], ◌∷◌, map, ℕ, ◌≤◌, length, take, drop, Option, Result, Ok, Err}
use Rattle.std.specs.Io.KnownBytes.{Appends}
use Rattle.method.specs.declared.TableRefusal.{TableRefusal}
use Rattle.method.specs.declared.Row.TheVariants as Row
use Rattle.method.specs.words.Layout.{header_of}
use Rattle.method.specs.told.Rows.{rows_of_all, closing_row}
use Rattle.method.specs.told.Program.{events_of}
use Rattle.method.specs.told.Text.{line_text, text_of, Writes}
use Rattle.method.specs.computed.Table.{opening}
use Rattle.method.specs.computed.Search.{run}
use Rattle.corridor.specs.declared.Session.{Session}
use Rattle.corridor.specs.View.{view, opened_session}
use Rattle.feeding.specs.Feeding.{left_by}
use Rattle.feeding.specs.Chunks.{all_bytes, WholeButLast, rows_in, left_in}
use Rattle.session.specs.Reading.{table_end}

-- ---- what the functions of `answers` make
-- a buffer whose first bytes are a text
pub record Begins (buffer : List ℕ) (size : ℕ) (text : List ℕ) : Type 0 where
  pub long : (size ≤ length buffer) × (size ≡ length (take size buffer))
  pub same : take size buffer ≡ text

abbrev pub told_text : Session → List ℕ → List ℕ
told_text s chunk = text_of (rows_of_all (run (view s) (events_of chunk)))

abbrev pub closing_text : Session → List ℕ
closing_text s = text_of (map closing_row (view s).lines)

-- ---- what is handed to write, one text after another
-- of an opened session: each chunk's answers, and after the last chunk the closing lines
abbrev pub texts : Session → List (List ℕ) → List (List ℕ)
texts s [] = closing_text s ∷ []
texts s (chunk ∷ chunks) = told_text s chunk ∷ texts (left_by s chunk) chunks

-- of a refused table: its line, and nothing more
abbrev pub texts_after : Result Session TableRefusal → List (List ℕ) → List (List ℕ)
texts_after (Ok s) chunks = texts s chunks
texts_after (Err r) chunks = line_text (Row.RefusedTable r.reason r.line) ∷ []

abbrev pub printed : List ℕ → List (List ℕ) → List (List ℕ)
printed table chunks = texts_after (opened_session (opening table)) chunks

-- The program reads an input up to `table_end` as the table, and then the rest in chunks of whole events, of which only the last may be
-- cut. All bytes that it hands to write are then those that the method says are written for the whole input, wherever between two events it is
-- cut into chunks. (METHOD 22)
abbrev pub WholeInput : Type 0
WholeInput = (input : List ℕ) (chunks : List (List ℕ)) → WholeButLast chunks → all_bytes chunks ≡ drop (table_end (header_of input)) input
    → Writes input (all_bytes (printed (take (table_end (header_of input)) input) chunks))

-- ---- what is written for an input whose bytes are known, beside what the output held before, where that is known
-- bytes in chunks, of which only the last may end in a cut event
pub record CutInto (bytes : List ℕ) (chunks : List (List ℕ)) : Type 0 where
  pub whole : WholeButLast chunks
  pub all : all_bytes chunks ≡ bytes

-- the bytes that were left, cut into some chunks: what each is answered, and the session that all leave
pub record TellsChunks (first last : Session) (before after : Option (List ℕ)) (rest : List ℕ) : Type 0 where
  pub chunks : List (List ℕ)
  pub cut : CutInto rest chunks
  pub left : last ≡ left_in first chunks
  pub told : Appends before after (text_of (rows_in first chunks))

-- the bytes that were left, cut into some chunks: the texts for these
pub record Answers (texts_for : List (List ℕ) → List (List ℕ)) (before after : Option (List ℕ)) (rest : List ℕ) : Type 0 where
  pub chunks : List (List ℕ)
  pub cut : CutInto rest chunks
  pub told : Appends before after (all_bytes (texts_for chunks))

-- a whole input: what the method says is written for it
pub record AnswersWhole (before after : Option (List ℕ)) (input : List ℕ) : Type 0 where
  pub bytes : List ℕ
  pub right : Writes input bytes
  pub told : Appends before after bytes
