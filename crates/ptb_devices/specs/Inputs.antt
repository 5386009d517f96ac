-- This file defines how the lines of an input come while they are asked for one by one.
-- Main definition: `ReadsOn`.
--     InputState                     what has come of an input and was not given
--     fresh_input                    the same before anything has come
--     IsWithin                       what a buffer holds of it
--     open_piece a                   the piece that has begun, unless it was given as a line
--     cut_bytes a bytes              of the bytes that the reader has left, those that are still cut into lines
--     lines_left a bytes             the lines that are left, where the reader has these bytes left
--     most_lines a                   at most how many lines can still be given
--     InputNow                       what has come of an input, and its reader
--     known_lines n                  the lines that are left, where the reader's bytes are known
--     CutsLine a b, CutsAll a b      a line was cut from what has come; all of it was cut, and it ended no line
--     TakesLine a line b             this line was taken from what has come, and is not kept
--     TakesWhole a line b            the same for a line that may be there: without one, nothing was done
--     IsReadAhead a taken most       these bytes were taken because fewer than `most` lines were complete before the
--                                    last read
--     ReadsOn wanted m given n       the input continued from m to n, and gave these lines; `wanted` more were asked
--                                    for
--     missed_in a                    how many lines were asked for that could not be given
--     fault_at end, Refuses end f    the fault that is answered from there on
use Rattle.std.specs.Prelude.{◌≡◌, ℕ, ◌+◌, ◌-◌, ◌<◌, ◌≤◌, ◌⊎◌, nat_lt, Bool, true, false}
use Rattle.std.specs.Prelude.{if◌then◌else◌, List, [], ◌∷◌, ◌++◌, length, take, Option, Some, None}
use Rattle.std.specs.Prelude.{option_map, IfSome}
use Rattle.std.specs.Borrow.{Bor}
use Rattle.std.specs.Io.KnownBytes.{Consumes}
use Rattle.ptb_text.specs.Device.{HasFailed, IsCounted}
use Rattle.ptb_devices.specs.declared.line_buffer.InputEnd.{InputEnd}
use Rattle.ptb_devices.specs.declared.line_buffer.InputEnd.TheVariants.{Open, Ended, Failed, Exceeded}
use Rattle.ptb_text.specs.declared.device_fault.DeviceFault.{DeviceFault}
use Rattle.ptb_text.specs.declared.device_fault.DeviceFault.TheVariants.{Read, TooLong}
use Rattle.ptb_devices.specs.declared.whole_input.TheConstants.{BUFFER_SIZE, INPUT_LIMIT}
use Rattle.ptb_devices.specs.CutLines.{kept_bytes, whole_lines, last_piece, line_of_piece, Cuts, IsLine}
use Rattle.ptb_devices.specs.Sources.{Loses}

-- ---- what has come of an input

-- a piece that was given as a line is kept until the next one is asked for;
-- of the bytes that may still be taken the last one only shows that the input is too long
pub record InputState : Type 0 where
  pub piece : Option (List ℕ)
  pub is_given : Bool
  pub waiting : List ℕ
  pub left : ℕ
  pub end : InputEnd

abbrev pub fresh_input : InputState
fresh_input = record { piece = None; is_given = false; waiting = []; left = INPUT_LIMIT + 1; end = Open }

abbrev pub open_piece : InputState → Option (List ℕ)
open_piece a = if a.is_given then None else a.piece

-- the buffer's bytes from the first place to the second wait to be cut, and the reader may continue only where a byte
-- may still be taken
pub record IsWithin (buffer : List ℕ) (from to left : ℕ) (end : InputEnd) : Type 0 where
  pub ordered : from ≤ to
  pub in_buffer : to ≤ length buffer
  pub size : length buffer ≡ BUFFER_SIZE
  pub room : end ≡ Open → 0 < left

-- ---- the lines that are left

abbrev pub cut_at_end : InputEnd → ℕ → List ℕ → List ℕ
cut_at_end Ended left bytes = []
cut_at_end Open left bytes = take (left - 1) bytes
cut_at_end Failed left bytes = take (left - 1) bytes
cut_at_end Exceeded left bytes = take (left - 1) bytes

abbrev pub cut_bytes : InputState → List ℕ → List ℕ
cut_bytes a bytes = cut_at_end a.end a.left bytes

abbrev pub ends_within : InputEnd → ℕ → List ℕ → Bool
ends_within Ended left bytes = true
ends_within Open left bytes = nat_lt (length bytes) left
ends_within Failed left bytes = nat_lt (length bytes) left
ends_within Exceeded left bytes = nat_lt (length bytes) left

-- a last piece is a line where the bytes end with it; where the input is cut off as too long, the line that is cut
-- is last, and is never given
abbrev pub lines_to_end : Bool → Option (List ℕ) → List ℕ → List (List ℕ)
lines_to_end ends p bytes =
    whole_lines p bytes ++ (if ends then line_of_piece (last_piece p bytes) else (kept_bytes (last_piece p bytes) ∷ []))

abbrev pub lines_left : InputState → List ℕ → List (List ℕ)
lines_left a bytes = lines_to_end (ends_within a.end a.left bytes) (open_piece a) (a.waiting ++ cut_bytes a bytes)

-- at most how many lines are ended by bytes that can still come: none once the end has come; else as many as the
-- bytes, and one that is cut off
abbrev pub most_to_come : InputEnd → ℕ → ℕ
most_to_come Ended left = 0
most_to_come Open left = left + 1
most_to_come Failed left = left + 1
most_to_come Exceeded left = left + 1

abbrev pub most_lines : InputState → ℕ
most_lines a = most_to_come a.end a.left + length a.waiting + length (line_of_piece (open_piece a))

-- ---- a line is cut

-- one line was cut, and is given
pub record CutsLine (a b : InputState) : Type 0 where
  pub prefix : List ℕ
  pub whole : a.waiting ≡ prefix ++ b.waiting
  pub some : 0 < length prefix
  pub cut : Cuts a.piece prefix (kept_bytes b.piece ∷ []) None
  pub rest : b ≡ record a { piece = b.piece; is_given = true; waiting = b.waiting }

-- all was cut, and it ended no line
pub record CutsAll (a b : InputState) : Type 0 where
  pub cut : Cuts a.piece a.waiting [] b.piece
  pub rest : b ≡ record a { piece = b.piece; is_given = false; waiting = [] }

-- no piece had begun, and the line is all that the bytes in front of its end are
pub record TakesLine (a : InputState) (line : List ℕ) (b : InputState) : Type 0 where
  pub prefix : List ℕ
  pub whole : a.waiting ≡ prefix ++ b.waiting
  pub some : 0 < length prefix
  pub unstarted : a.piece ≡ None
  pub cut : IsLine line prefix
  pub rest : b ≡ record a { waiting = b.waiting }

abbrev pub TakesWhole : InputState → Option (Bor (List ℕ)) → InputState → Type 0
TakesWhole a None b = b ≡ a
TakesWhole a (Some line) b = TakesLine a line.now b

-- ---- how it continues

pub record InputNow : Type 0 where
  pub state : InputState
  pub bytes : Option (List ℕ)
  pub given : ℕ
  pub failures : ℕ

abbrev pub known_lines : InputNow → Option (List (List ℕ))
known_lines n = option_map (lines_left n.state) n.bytes

abbrev pub input_now : {R : Type 0} → (R → Option (List ℕ)) → (R → ℕ) → (R → ℕ) → InputState → R → InputNow
input_now remaining given failures state reader =
    record { state = state; bytes = remaining reader; given = given reader; failures = failures reader }

-- the last read gave at most as many bytes as the buffer has, and before it fewer than `most` lines were complete
pub record IsReadAhead (a : InputState) (taken : List ℕ) (most : ℕ) : Type 0 where
  pub before : List ℕ
  pub piece : List ℕ
  pub both : taken ≡ before ++ piece
  pub some : 0 < length piece
  pub fits : length piece ≤ BUFFER_SIZE
  pub needed : length (whole_lines (open_piece a) (a.waiting ++ before)) < most

-- where the reader was left, nothing waits
abbrev pub IsDrained : InputState → Type 0
IsDrained a = (a.end ≡ Open → ⊥) → a.waiting ≡ []

-- a line that was asked for could not be given once the end or a fault has come, unless the last piece was given
abbrev pub missed_at : InputEnd → Bool → ℕ
missed_at Open given = 0
missed_at Ended true = 0
missed_at Ended false = 1
missed_at Failed given = 1
missed_at Exceeded given = 1

abbrev pub missed_in : InputState → ℕ
missed_in a = missed_at a.end a.is_given

pub record ReadsOn (wanted : ℕ) (m : InputNow) (given : List (List ℕ)) (n : InputNow) : Type 0 where
  pub loses : Loses (known_lines m) (known_lines n) given
  pub falls : most_lines n.state + length given ≤ most_lines m.state
  -- what the reader gave: no more than was needed, and nothing after the end or a fault
  pub taken : List ℕ
  pub consumed : Consumes m.bytes n.bytes taken
  pub counted : IsCounted m.given n.given (length taken)
  pub room : length taken + n.state.left ≡ m.state.left
  pub ahead : (taken ≡ []) ⊎ IsReadAhead m.state taken (length given + wanted)
  pub stays : (m.state.end ≡ Open → ⊥) → (n.state.end ≡ m.state.end) × (taken ≡ [])
  pub drained : IsDrained m.state → IsDrained n.state
  -- a line that could not be given before is given, or can't be given later
  pub asks : missed_in m.state ≤ length given + missed_in n.state
  -- until the end has come, the lines given are those that the bytes end
  pub cut : (n.state.end ≡ Ended → ⊥) → Cuts (open_piece m.state) (m.state.waiting ++ take (m.state.left - 1) taken)
      (given ++ whole_lines (open_piece n.state) n.state.waiting) (last_piece (open_piece n.state) n.state.waiting)
  -- a byte may still be taken, unless too many were
  pub spare : 0 < m.state.left → (n.state.end ≡ Exceeded → ⊥) → 0 < n.state.left
  -- the end comes within what an input may have
  pub ended : n.state.end ≡ Ended → (m.state.end ≡ Ended) ⊎ IfSome m.bytes (λ bytes. length bytes < m.state.left)
  -- faults
  pub later : m.failures ≤ n.failures
  pub unfailed : (n.state.end ≡ Failed → ⊥) → n.failures ≡ m.failures
  pub failed : n.state.end ≡ Failed → (m.state.end ≡ Failed) ⊎ HasFailed m.failures n.failures
  pub exceeded : n.state.end ≡ Exceeded → (m.state.end ≡ Exceeded) ⊎ (n.state.left ≡ 0)

-- ---- faults

abbrev pub fault_at : InputEnd → Option DeviceFault
fault_at Open = None
fault_at Ended = None
fault_at Failed = Some Read
fault_at Exceeded = Some TooLong

-- after a fault the input gives that fault again, and never takes memory
abbrev pub Refuses : InputEnd → DeviceFault → Type 0
Refuses end fault = fault_at end ≡ Some fault
