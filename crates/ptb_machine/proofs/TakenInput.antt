-- This file proves what a plain run took of its input, from how a source of its lines continued.
-- Main lemma: `reads_for`.
use Rattle.std.proofs.Common.{◌≡◌, ℕ, ◌+◌, ◌-◌, ◌≤◌, ◌<◌, ◌⊎◌, inl, inr, Bool, true, false, nat_lt}
use Rattle.std.proofs.Common.{◌==◌, List, [], ◌∷◌, ◌++◌, length, take, drop, Option, Some, None}
use Rattle.std.proofs.Common.{Result, Ok, Err, IfOk, IfSome, IsErrOf, OnOk, ℤ, refl, sym, ap, subst}
use Rattle.std.proofs.Common.{◌∙◌, arith, append_assoc, length-append, take_all, take-append-drop}
use Rattle.std.specs.Prelude.{option_map, OnErr, if◌then◌else◌}
use Rattle.std.proofs.lemmas.Bool.{lt-ltb, le-ltb, ltb-true, ltb-false, eqb-false}
use Rattle.std.specs.Io.KnownBytes.{Appends, Consumes}
use Rattle.ptb_text.specs.Device.{GivesAtMost, GivesExactly, HasFailed, TakesSome}
use Rattle.ptb_text.specs.Lines.{input_lines}
use Rattle.ptb_text.specs.declared.device_fault.DeviceFault.{DeviceFault}
use Rattle.ptb_text.specs.declared.device_fault.DeviceFault.TheVariants as reads
use Rattle.ptb_devices.specs.declared.line_buffer.InputEnd.{InputEnd}
use Rattle.ptb_devices.specs.declared.line_buffer.InputEnd.TheVariants.{Open, Ended, Failed, Exceeded}
use Rattle.ptb_devices.specs.CutLines.{kept_bytes, whole_lines, last_piece, line_of_piece}
use Rattle.ptb_devices.specs.CutLineLaws.{whole_lines-append}
use Rattle.ptb_devices.specs.Inputs.{InputState, InputNow, fresh_input, open_piece, lines_left}
use Rattle.ptb_devices.specs.Inputs.{lines_to_end, known_lines, most_to_come, most_lines, input_now}
use Rattle.ptb_devices.specs.Inputs.{ReadsOn, Refuses, missed_in, fault_at, IsReadAhead, missed_at}
use Rattle.ptb_devices.specs.InputLaws.{take-split, none_known}
use Rattle.ptb_devices.specs.declared.reader_lines.ReaderLines.{ReaderLines}
use Rattle.ptb_devices.specs.Readers.{line_input, line_reader, input_of, GivesFrom}
use Rattle.ptb_devices.specs.Sources.{Loses, NoneLeft, ConsumesAtMost}
use Rattle.ptb_devices.proofs.PublicLemmas.{input_lines-cut}
use Rattle.ptb_text.specs.Statements.{StoredProgram}
use Rattle.ptb_answers.specs.declared.pause.Pause.{Pause}
use Rattle.ptb_answers.specs.Outcome.{Answers}
use Rattle.ptb_command.specs.Devices.{Devices, ScreenState, HasBroken, refused_by}
use Rattle.ptb_machine.specs.declared.fault.RunFault.TheVariants as runs
use Rattle.ptb_answers.specs.declared.rules.Rules.{Rules}
use Rattle.ptb_command.specs.Stops.{NotMissed, UnlessMissed}
use Rattle.ptb_machine.specs.PlayResults.{RunComes}
use Rattle.ptb_machine.specs.Runs.{run_miss}
use Rattle.ptb_command.specs.declared.ending.Ending.{Ending}
use Rattle.ptb_command.specs.declared.ending.Ending.TheVariants as endings
use Rattle.ptb_machine.specs.declared.fault.RunFault.{RunFault}
use Rattle.ptb_machine.specs.Play.{plain}
use Rattle.ptb_machine.specs.MemoryNotes.{noted_result}
use Rattle.ptb_machine.specs.PlainRuns.{IsUnreadable, ShowsRun, ShowsQuestion}
use Rattle.ptb_machine.specs.RunFaults.{fault_of_device}
use Rattle.ptb_machine.specs.PlainRuns.{lines_come, lines_taken, ending_wanted, lines_wanted}
use Rattle.ptb_machine.specs.PlainRuns.{ReadsFor}
use Rattle.ptb_machine.proofs.WriterRuns.{IsRunBetween, IsUnreadBetween}

abbrev pub fresh : Option (List ℕ) → ℕ → ℕ → InputNow
fresh known x f = record { state = fresh_input; bytes = known; given = x; failures = f }

-- the lines of an input that come after those that were given
pub record IsAfter (c : List ℕ) (given : List (List ℕ)) (n : InputNow) : Type 0 where
  pub rest : List (List ℕ)
  pub whole : input_lines c ≡ given ++ rest
  pub none : NoneLeft (known_lines n) → rest ≡ []

-- ---- an input whose bytes are known

-- where a reader's bytes are known, they still are
record IsKnown (n : InputNow) (xs given : List (List ℕ)) : Type 0 where
  bytes : List ℕ
  is : n.bytes ≡ Some bytes
  lines : xs ≡ given ++ lines_left n.state bytes

is_known : (n : InputNow) (xs given : List (List ℕ)) (b : Option (List ℕ)) → n.bytes ≡ b
    → Loses (Some xs) (option_map (lines_left n.state) b) given → IsKnown n xs given
is_known n xs given None e l = absurd l
is_known n xs given (Some y) e l = record { bytes = y; is = e; lines = l }

module _ (wanted : ℕ) (c : List ℕ) (x f : ℕ) (n : InputNow) (given : List (List ℕ))
    (on : ReadsOn wanted (fresh (Some c) x f) given n) where
  abbrev known : IsKnown n (lines_left fresh_input c) given
  known = is_known n (lines_left fresh_input c) given n.bytes refl on.loses

  none_left : NoneLeft (known_lines n) → lines_left n.state known.bytes ≡ []
  none_left h = subst (λ b. NoneLeft (option_map (lines_left n.state) b)) known.is h

  -- all of it may be read
  short : length c < 16777217 → IsAfter c given n
  short fits =
      let within : nat_lt (length c) 16777217 ≡ true = lt-ltb (length c) 16777217 fits in
      let all : take 16777216 c ≡ c = take_all 16777216 c (omega (arith, fits)) in
      let same : lines_left fresh_input c ≡ input_lines c =
      ap (λ t. lines_to_end t None (take 16777216 c)) within ∙ ap (lines_to_end true None) all
      ∙ sym (input_lines-cut c) in
      record { rest = lines_left n.state known.bytes; whole = sym same ∙ known.lines; none = none_left }

  -- it is too long to be read to its end
  module _ (exceeds : 16777217 ≤ length c) where
    abbrev taken : List ℕ
    taken = on.taken

    split : c ≡ taken ++ known.bytes
    split = subst (λ b. Consumes (Some c) b on.taken) known.is on.consumed

    going : n.state.end ≡ Ended → ⊥
    going e = elim (on.ended e) [
      | inl p ↦ absurd (let clash : Open ≡ Ended = p in cc)
      | inr p ↦ absurd (omega (arith, p, exceeds))
    ]

    abbrev waiting : List (List ℕ)
    waiting = whole_lines (open_piece n.state) n.state.waiting

    abbrev front : List ℕ
    front = take 16777216 taken

    cut : whole_lines None front ≡ given ++ waiting
    cut = (on.cut going).0

    abbrev following : List (List ℕ)
    following = whole_lines (last_piece None front) (drop 16777216 taken ++ known.bytes)

    all_bytes : c ≡ front ++ (drop 16777216 taken ++ known.bytes)
    all_bytes =
        split ∙ ap (λ l. l ++ known.bytes) (sym (take-append-drop 16777216 taken))
        ∙ append_assoc front (drop 16777216 taken) known.bytes

    whole : input_lines c ≡ given ++ (waiting ++ (following ++ line_of_piece (last_piece None c)))
    whole =
        input_lines-cut c
        ∙ ap (λ l. l ++ line_of_piece (last_piece None c)) (ap (whole_lines None) all_bytes
        ∙ whole_lines-append None front (drop 16777216 taken ++ known.bytes) ∙ ap (λ l. l ++ following) cut)
        ∙ append_assoc (given ++ waiting) following (line_of_piece (last_piece None c))
        ∙ append_assoc given waiting (following ++ line_of_piece (last_piece None c))

    -- the line that is cut off is never given
    left_over : NoneLeft (known_lines n) → ⊥
    left_over h =
        let beyond : nat_lt (length c) 16777217 ≡ false = le-ltb (length c) 16777217 exceeds in
        let first : take 16777216 c ≡ front ++ take (16777216 - length taken) known.bytes =
        ap (take 16777216) split ∙ take-split 16777216 taken known.bytes in
        let more = whole_lines (last_piece None front) (take (16777216 - length taken) known.bytes) in
        let cut_lines : whole_lines None (take 16777216 c) ≡ (given ++ waiting) ++ more =
        ap (whole_lines None) first ∙ whole_lines-append None front (take (16777216 - length taken) known.bytes)
        ∙ ap (λ l. l ++ more) cut in
        let lines : lines_left fresh_input c ≡ whole_lines None (take 16777216 c)
        ++ (kept_bytes (last_piece None (take 16777216 c)) ∷ []) =
        ap (λ t. lines_to_end t None (take 16777216 c)) beyond in
        let all : whole_lines None (take 16777216 c) ++ (kept_bytes (last_piece None (take 16777216 c)) ∷ [])
        ≡ given ++ lines_left n.state known.bytes = sym lines ∙ known.lines in
        omega (
          arith,
          ap length all,
          length-append (whole_lines None (take 16777216 c)) (kept_bytes (last_piece None (take 16777216 c)) ∷ []),
          length-append given (lines_left n.state known.bytes),
          ap length (none_left h),
          ap length cut_lines,
          length-append (given ++ waiting) more,
          length-append given waiting,
        )

    long : IsAfter c given n
    long = record {
      rest = waiting ++ (following ++ line_of_piece (last_piece None c));
      whole = whole;
      none = λ h. absurd (left_over h);
    }

  by_length : (t : Bool) → nat_lt (length c) 16777217 ≡ t → IsAfter c given n
  by_length true e = short (ltb-true (length c) 16777217 e)
  by_length false e = long (ltb-false (length c) 16777217 e)

  pub lines_after : IsAfter c given n
  lines_after = by_length (nat_lt (length c) 16777217) refl

-- ---- faults

ends_at : (end : InputEnd) → (fault_at end ≡ None → ⊥) → (end ≡ Failed) ⊎ (end ≡ Exceeded)
ends_at Open h = absurd (h refl)
ends_at Ended h = absurd (h refl)
ends_at Failed h = inl refl
ends_at Exceeded h = inr refl

faulty : (end : InputEnd) (fault : DeviceFault) → fault_at end ≡ Some fault → fault_at end ≡ None → ⊥
faulty end fault e h = absurd (let clash : Some fault ≡ None = sym e ∙ h in cc)

unfailed_end : (end : InputEnd) → fault_at end ≡ None → end ≡ Failed → ⊥
unfailed_end end h e = absurd (let clash : Some reads.Read ≡ None = sym (ap fault_at e) ∙ h in cc)

within_end : (end : InputEnd) → fault_at end ≡ None → end ≡ Exceeded → ⊥
within_end end h e = absurd (let clash : Some reads.TooLong ≡ None = sym (ap fault_at e) ∙ h in cc)

-- no fault is one of a writer
fault_of_no_writer : (end : InputEnd) → fault_at end ≡ Some reads.Write → ⊥
fault_of_no_writer Open e = absurd cc
fault_of_no_writer Ended e = absurd cc
fault_of_no_writer Failed e = absurd cc
fault_of_no_writer Exceeded e = absurd cc

-- nor is one lack of memory
pub fault_without_memory : (end : InputEnd) → fault_at end ≡ Some reads.Memory → ⊥
fault_without_memory Open e = absurd cc
fault_without_memory Ended e = absurd cc
fault_without_memory Failed e = absurd cc
fault_without_memory Exceeded e = absurd cc

-- so a run on such an input couldn't read a line
pub fault_unread : (end : InputEnd) (fault : DeviceFault) → fault_at end ≡ Some fault
    → fault_of_device fault ≡ runs.Read
fault_unread end reads.Read e = refl
fault_unread end reads.TooLong e = refl
fault_unread end reads.Write e = absurd (fault_of_no_writer end e)
fault_unread end reads.Memory e = absurd (fault_without_memory end e)

module _ (wanted : ℕ) (known : Option (List ℕ)) (x f : ℕ) (n : InputNow) (given : List (List ℕ))
    (on : ReadsOn wanted (fresh known x f) given n) where
  pub takes_at_most : ConsumesAtMost known n.bytes 16777217
  takes_at_most = (on.taken, omega (arith, on.room), on.consumed)

  pub given_at_most : GivesAtMost x n.given 16777217
  given_at_most = (on.counted.at_most.0, omega (arith, on.room, on.counted.at_most.1))

  -- where no fault has come
  pub takes_within : fault_at n.state.end ≡ None → ConsumesAtMost known n.bytes 16777216
  takes_within h = (on.taken, omega (arith, on.room, on.spare (omega arith) (within_end n.state.end h)), on.consumed)

  pub reads_unfailed : fault_at n.state.end ≡ None → n.failures ≡ f
  reads_unfailed h = on.unfailed (unfailed_end n.state.end h)

  -- where one has, the lines given are those that came complete
  module _ (fault : DeviceFault) (is : fault_at n.state.end ≡ Some fault) where
    closed : n.state.end ≡ Open → ⊥
    closed e = absurd (let clash : None ≡ Some fault = sym (ap fault_at e) ∙ is in cc)

    unended : n.state.end ≡ Ended → ⊥
    unended e = absurd (let clash : None ≡ Some fault = sym (ap fault_at e) ∙ is in cc)

    pub came_whole : lines_come on.taken ≡ given ++ []
    came_whole =
        (on.cut unended).0 ∙ ap (λ w. given ++ whole_lines (open_piece n.state) w) (on.drained (λ _. refl) closed)

    too_long : n.state.left ≡ 0 → (a b : Option (List ℕ)) → Consumes a b on.taken → IfSome a (λ c. 16777216 < length c)
    too_long none None b c = tt
    too_long none (Some x) None c = absurd c
    too_long none (Some x) (Some y) c = omega (arith, ap length c, length-append on.taken y, on.room, none)

    pub is_unreadable : IsUnreadable known f n.failures
    is_unreadable = elim (ends_at n.state.end (faulty n.state.end fault is)) [
      | inl e ↦ elim (on.failed e) [ inl p ↦ absurd (let clash : Open ≡ Failed = p in cc) | inr p ↦ inl p ]
      | inr e ↦ elim (on.exceeded e) [
        | inl p ↦ absurd (let clash : Open ≡ Exceeded = p in cc)
        | inr p ↦ inr (too_long p known n.bytes on.consumed)
      ]
    ]

    -- the reader failed, or has given one byte too many
    pub failed_or_given : HasFailed f n.failures ⊎ GivesExactly x n.given 16777217
    failed_or_given = elim (ends_at n.state.end (faulty n.state.end fault is)) [
      | inl e ↦ elim (on.failed e) [ inl p ↦ absurd (let clash : Open ≡ Failed = p in cc) | inr p ↦ inl p ]
      | inr e ↦ elim (on.exceeded e) [
        | inl p ↦ absurd (let clash : Open ≡ Exceeded = p in cc)
        | inr p ↦ inr (all_given (omega (arith, on.room, p)))
      ]
    ] where
      all_given : length on.taken ≡ 16777217 → GivesExactly x n.given 16777217
      all_given e = subst (λ k. GivesExactly x n.given k) e (on.counted.exactly (omega (arith, e)))

-- ---- how far the input was read

asked_one : (a : InputState) → missed_in a ≤ 1
asked_one a = by_end a.end a.is_given where
  by_end : (end : InputEnd) (given : Bool) → missed_at end given ≤ 1
  by_end Open given = omega arith
  by_end Ended true = omega arith
  by_end Ended false = omega arith
  by_end Failed given = omega arith
  by_end Exceeded given = omega arith

-- where a fault has come, a line was asked for without success
pub fault_asked : (a : InputState) (fault : DeviceFault) → fault_at a.end ≡ Some fault → missed_in a ≤ 0 → ⊥
fault_asked a fault e h = by_end a.end a.is_given e h where
  by_end : (end : InputEnd) (given : Bool) → fault_at end ≡ Some fault → missed_at end given ≤ 0 → ⊥
  by_end Open given e h = absurd (let clash : None ≡ Some fault = e in cc)
  by_end Ended given e h = absurd (let clash : None ≡ Some fault = e in cc)
  by_end Failed given e h = omega (arith, h)
  by_end Exceeded given e h = omega (arith, h)

-- by how the run has ended, where it missed no line
missed_within : (a : InputState) (P : Type 0) → (P → missed_in a ≤ 0) → (result : Result Ending RunFault)
    → UnlessMissed (Refuses a.end) P (run_miss result) → (k : ℕ) → k + missed_in a ≤ ending_wanted k result
missed_within a P few (Ok endings.End) m k = omega (arith, few m)
missed_within a P few (Ok endings.Stop) m k = omega (arith, few m)
missed_within a P few (Ok endings.What) m k = omega (arith, few m)
missed_within a P few (Ok endings.How) m k = omega (arith, few m)
missed_within a P few (Ok endings.Sorry) m k = omega (arith, few m)
missed_within a P few (Ok endings.Limit) m k = omega (arith, few m)
missed_within a P few (Ok endings.NoInput) m k = omega (arith, asked_one a)
missed_within a P few (Ok endings.NoAnswer) m k = omega (arith, few m)
missed_within a P few (Ok endings.BadAnswer) m k = omega (arith, few m)
missed_within a P few (Err runs.Memory) m k =
    elim m [ inl q ↦ omega (arith, few q) | inr r ↦ absurd (fault_without_memory a.end r) ]
missed_within a P few (Err runs.Read) m k = omega (arith, asked_one a)
missed_within a P few (Err runs.Write) m k = omega (arith, few m)
missed_within a P few (Err runs.Spent) m k = omega (arith, few m)

-- where it took k of all lines, of which so many were given; it may have missed one only where these were all
abbrev pub WantsWithin : Rules → Result Ending RunFault → ℕ → ℕ → Type 0
WantsWithin rules result wanted most = (given all k : ℕ) → given ≤ k → k ≤ all → (most ≡ 0 → all ≤ given)
    → given + wanted ≤ lines_wanted rules.choose all k result

wanted_by_choose : (a : InputState) (most : ℕ) (choose : Option ℤ) (result : Result Ending RunFault)
    → UnlessMissed (Refuses a.end) (NotMissed choose 0 (missed_in a) most) (run_miss result)
    → (given all k : ℕ) → given ≤ k → k ≤ all → (most ≡ 0 → all ≤ given)
    → given + missed_in a ≤ lines_wanted choose all k result
wanted_by_choose a most None result m given all k fits part over =
    let within = missed_within a (missed_in a ≤ 0) (λ q. q) result m k in omega (arith, fits, within)
wanted_by_choose a most (Some n) result m given all k fits part over = by_all (k == all) refl where
  wants : Bool → ℕ
  wants same = if same then k + 1 else ending_wanted k result

  -- fewer lines were taken than there are, so one can still be given
  few : (k == all) ≡ false → (missed_in a ≤ 0) ⊎ (most ≡ 0) → missed_in a ≤ 0
  few differs (inl q) = q
  few differs (inr none) = absurd (eqb-false k all differs (omega (arith, over none, fits, part)))

  by_all : (same : Bool) → (k == all) ≡ same → given + missed_in a ≤ wants same
  by_all true e = omega (arith, fits, asked_one a)
  by_all false e = let within = missed_within a ((missed_in a ≤ 0) ⊎ (most ≡ 0)) (few e) result m k in
      omega (arith, fits, within)

pub wanted_within : (a : InputState) (most : ℕ) (rules : Rules) (result : Result Ending RunFault)
    → UnlessMissed (Refuses a.end) (NotMissed rules.choose 0 (missed_in a) most) (run_miss result)
    → WantsWithin rules result (missed_in a) most
wanted_within a most rules result m = wanted_by_choose a most rules.choose result m

-- by the fault that has come
fault_within : (a : InputState) (fault : DeviceFault) → fault_at a.end ≡ Some fault → (k : ℕ)
    → k + missed_in a ≤ ending_wanted k (Err (fault_of_device fault))
fault_within a reads.Read e k = omega (arith, asked_one a)
fault_within a reads.TooLong e k = omega (arith, asked_one a)
fault_within a reads.Write e k = absurd (fault_of_no_writer a.end e)
fault_within a reads.Memory e k = absurd (fault_without_memory a.end e)

pub wanted_at_fault : (a : InputState) (most : ℕ) (rules : Rules) (fault : DeviceFault) → fault_at a.end ≡ Some fault
    → WantsWithin rules (Err (fault_of_device fault)) (missed_in a) most
wanted_at_fault a most rules fault e = by_choose rules.choose where
  by_choose : (choose : Option ℤ) (given all k : ℕ) → given ≤ k → k ≤ all → (most ≡ 0 → all ≤ given)
      → given + missed_in a ≤ lines_wanted choose all k (Err (fault_of_device fault))
  by_choose None given all k fits part over = let within = fault_within a fault e k in omega (arith, fits, within)
  by_choose (Some n) given all k fits part over = by_all (k == all) where
    by_all : (same : Bool) → given + missed_in a ≤ (if same then k + 1 else ending_wanted k
        (Err (fault_of_device fault)))
    by_all true = omega (arith, fits, asked_one a)
    by_all false = let within = fault_within a fault e k in omega (arith, fits, within)

-- where a fault has come, more lines could have come
pub more_at_fault : (a : InputState) (fault : DeviceFault) → fault_at a.end ≡ Some fault → most_lines a ≡ 0 → ⊥
more_at_fault a fault e none = by_end a.end e (omega (arith, none)) where
  by_end : (end : InputEnd) → fault_at end ≡ Some fault → most_to_come end a.left ≡ 0 → ⊥
  by_end Open e h = absurd (let clash : None ≡ Some fault = e in cc)
  by_end Ended e h = absurd (let clash : None ≡ Some fault = e in cc)
  by_end Failed e h = omega (arith, h)
  by_end Exceeded e h = omega (arith, h)

-- and one was asked for without success
pub fault_missed : (a : InputState) (choose : Option ℤ) (fault : DeviceFault) → fault_at a.end ≡ Some fault
    → NotMissed choose 0 (missed_in a) (most_lines a) → ⊥
fault_missed a None fault e m = fault_asked a fault e m
fault_missed a (Some n) fault e (inl q) = fault_asked a fault e q
fault_missed a (Some n) fault e (inr none) = more_at_fault a fault e none

-- the answers by which a run goes may hang on its lines
module _ (p : StoredProgram) (rules : Rules) (a : List (List ℕ) → Answers) (wanted x f : ℕ) (n : InputNow)
    (given : List (List ℕ))
    (takes : (following : List (List ℕ)) → (NoneLeft (known_lines n) → following ≡ [])
    → length given ≤ lines_taken p (given ++ following) rules (a (given ++ following)))
    (result : Result Ending RunFault) (within : WantsWithin rules result wanted (most_lines n.state)) where
  pub reads_for : (known : Option (List ℕ)) (on : ReadsOn wanted (fresh known x f) given n)
      → IfSome known (λ c. ReadsFor on.taken (lines_wanted rules.choose (length (input_lines c))
      (lines_taken p (input_lines c) rules (a (input_lines c))) result))
  reads_for None on = tt
  reads_for (Some c) on = by_ahead on.ahead where
    b : IsAfter c given n
    b = lines_after wanted c x f n given on

    few : length given ≤ lines_taken p (input_lines c) rules (a (input_lines c))
    few = subst (λ i. length given ≤ lines_taken p i rules (a i)) (sym b.whole) (takes b.rest b.none)

    -- where none can come, these were all
    over : most_lines n.state ≡ 0 → length (input_lines c) ≤ length given
    over none = omega (arith, ap length b.whole, length-append given b.rest, ap length (b.none (none_known n none)))

    needed : ℕ
    needed =
        lines_wanted rules.choose (length (input_lines c))
        (lines_taken p (input_lines c) rules (a (input_lines c))) result

    enough : length given + wanted ≤ needed
    enough =
        within (length given) (length (input_lines c)) (lines_taken p (input_lines c) rules (a (input_lines c))) few
        (omega arith) over

    by_ahead : (on.taken ≡ []) ⊎ IsReadAhead fresh_input on.taken (length given + wanted) → ReadsFor on.taken needed
    by_ahead (inl none) = inl none
    by_ahead (inr h) =
        let fewer : length (whole_lines None h.before) < length given + wanted = h.needed in
        inr (record {
          before = h.before;
          piece = h.piece;
          both = h.both;
          some = h.some;
          fits = h.fits;
          needed = omega (arith, fewer, enough);
        })

-- ---- a run on the lines of a reader

-- what a source of lines over a reader took of it
pub taken_by : {R : Type 0} (remaining : R → Option (List ℕ)) (counted failures : R → ℕ) (s t : ReaderLines R)
    (given : List (List ℕ)) (i : R)
    → line_input s ≡ fresh_input → (line_reader s).now ≡ i → GivesFrom remaining counted failures s given t
    → ReadsOn (missed_in (line_input t)) (fresh (remaining i) (counted i) (failures i)) given
    (input_of remaining counted failures t)
taken_by remaining counted failures s t given i state reader gives =
    subst (λ r. ReadsOn (missed_in (line_input t)) (input_now remaining counted failures fresh_input r) given
    (input_of remaining counted failures t)) reader
    (subst (λ (a : InputState). ReadsOn (missed_in (line_input t)) (input_now remaining counted failures a
    (line_reader s).now) given (input_of remaining counted failures t)) state gives.reads)

module _ {W : Type 0} (contents : W → Option (List ℕ)) (written : W → ℕ) (p : StoredProgram) (rules : Rules)
    (a : List (List ℕ) → Answers) (refuses : Pause → ℤ → Type 0) (w v : W) (ended : Result Ending RunFault)
    (wanted x f : ℕ) (n : InputNow) (given : List (List ℕ))
    (between : (following : List (List ℕ)) → (NoneLeft (known_lines n) → following ≡ [])
    → IsRunBetween contents written p rules (given ++ following) (a (given ++ following)) refuses w v ended) where
  -- by the bytes of the input, where they are known
  pub shows_input : (known : Option (List ℕ)) → ReadsOn wanted (fresh known x f) given n
      → IfOk ended (λ e. IfSome known (λ c. ShowsRun (plain p (input_lines c) rules (a (input_lines c))) (contents w)
      (contents v) e))
  shows_input None on = nothing ended where
    nothing : (r : Result Ending RunFault)
        → IfOk r (λ e. IfSome None (λ c. ShowsRun (plain p (input_lines c) rules (a (input_lines c))) (contents w)
        (contents v) e))
    nothing (Ok e) = tt
    nothing (Err fault) = tt
  shows_input (Some c) on =
      let b = lines_after wanted c x f n given on in
      subst (λ i. IfOk ended (ShowsRun (plain p i rules (a i)) (contents w) (contents v))) (sym b.whole)
      (between b.rest b.none).ok

  pub begins_input : (known : Option (List ℕ)) → ReadsOn wanted (fresh known x f) given n
      → IfSome known (λ c. TakesSome (contents w) (contents v) (plain p (input_lines c) rules (a (input_lines c))).0)
  begins_input None on = tt
  begins_input (Some c) on =
      let b = lines_after wanted c x f n given on in
      subst (λ i. TakesSome (contents w) (contents v) (plain p i rules (a i)).0) (sym b.whole)
      (between b.rest b.none).prefix

  pub stops_input : IsErrOf ended runs.Memory → (known : Option (List ℕ)) → ReadsOn wanted (fresh known x f) given n
      → Appends (contents w) (contents v) [] ⊎ IfSome known
      (λ c. ShowsQuestion (plain p (input_lines c) rules) (a (input_lines c)) (contents w) (contents v))
  stops_input is None on = inr tt
  stops_input is (Some c) on =
      let b = lines_after wanted c x f n given on in
      subst
      (λ i. Appends (contents w) (contents v) [] ⊎ ShowsQuestion (plain p i rules) (a i) (contents w) (contents v))
      (sym b.whole)
      (elim ((between b.rest b.none).memory is) [ inl nothing ↦ inl nothing | inr asks ↦ inr asks.1 ])

-- what holds of the lines that were given, whatever lines come after them, holds of those of the input
pub of_input : (P : List (List ℕ) → Type 0) (wanted x f : ℕ) (n : InputNow) (given : List (List ℕ))
    → ((following : List (List ℕ)) → (NoneLeft (known_lines n) → following ≡ []) → P (given ++ following))
    → (known : Option (List ℕ)) → ReadsOn wanted (fresh known x f) given n → IfSome known (λ c. P (input_lines c))
of_input P wanted x f n given each None on = tt
of_input P wanted x f n given each (Some c) on =
    let b = lines_after wanted c x f n given on in
    subst P (sym b.whole) (each b.rest b.none)

-- on the lines that came complete, where a fault has come, it ends for lack of a line
pub shows_come : {W : Type 0} (contents : W → Option (List ℕ)) (written : W → ℕ) (p : StoredProgram) (rules : Rules)
    (a : List (List ℕ) → Answers) (w v : W) (wanted x f : ℕ) (n : InputNow) (given : List (List ℕ))
    (known : Option (List ℕ)) (on : ReadsOn wanted (fresh known x f) given n) (fault : DeviceFault)
    → fault_at n.state.end ≡ Some fault → IsUnreadBetween contents written p rules (given ++ []) (a (given ++ [])) w v
    → ShowsRun (plain p (lines_come on.taken) rules (a (lines_come on.taken))) (contents w) (contents v) endings.NoInput
shows_come contents written p rules a w v wanted x f n given known on fault is run =
    subst (λ i. ShowsRun (plain p i rules (a i)) (contents w) (contents v) endings.NoInput)
    (sym (came_whole wanted known x f n given on fault is)) run.shows

-- ---- how a run has ended

-- what is noted is no line that could not be read, and wants no more lines
pub noted_read : (noticed : Bool) (r : Result Ending RunFault) → IsErrOf (noted_result noticed r) runs.Read
    → IsErrOf r runs.Read
noted_read noticed (Ok endings.End) e = e
noted_read noticed (Ok endings.Stop) e = e
noted_read noticed (Ok endings.What) e = e
noted_read noticed (Ok endings.How) e = e
noted_read noticed (Ok endings.Sorry) e = e
noted_read noticed (Ok endings.Limit) e = e
noted_read noticed (Ok endings.NoInput) e = e
noted_read false (Ok endings.NoAnswer) e = e
noted_read true (Ok endings.NoAnswer) e = absurd cc
noted_read noticed (Ok endings.BadAnswer) e = e
noted_read noticed (Err fault) e = e

noted_wanted : (noticed : Bool) (k : ℕ) (r : Result Ending RunFault)
    → ending_wanted k (noted_result noticed r) ≡ ending_wanted k r
noted_wanted noticed k (Ok endings.End) = refl
noted_wanted noticed k (Ok endings.Stop) = refl
noted_wanted noticed k (Ok endings.What) = refl
noted_wanted noticed k (Ok endings.How) = refl
noted_wanted noticed k (Ok endings.Sorry) = refl
noted_wanted noticed k (Ok endings.Limit) = refl
noted_wanted noticed k (Ok endings.NoInput) = refl
noted_wanted false k (Ok endings.NoAnswer) = refl
noted_wanted true k (Ok endings.NoAnswer) = refl
noted_wanted noticed k (Ok endings.BadAnswer) = refl
noted_wanted noticed k (Err fault) = refl

noted_lines : (noticed : Bool) (choose : Option ℤ) (all k : ℕ) (r : Result Ending RunFault)
    → lines_wanted choose all k (noted_result noticed r) ≡ lines_wanted choose all k r
noted_lines noticed None all k r = noted_wanted noticed k r
noted_lines noticed (Some n) all k r = ap (λ w. if k == all then k + 1 else w) (noted_wanted noticed k r)

pub noted_within : (noticed : Bool) (rules : Rules) (r : Result Ending RunFault) (wanted most : ℕ)
    → WantsWithin rules r wanted most → WantsWithin rules (noted_result noticed r) wanted most
noted_within noticed rules r wanted most within given all k fits part over =
    let enough = within given all k fits part over in omega (arith, enough, noted_lines noticed rules.choose all k r)

-- where the source has come to no fault, the run doesn't say that a line could not be read
module _ (p : StoredProgram) (rules : Rules) (refuses : Pause → ℤ → Type 0) (o n : Devices) (end : InputEnd)
    (left : Option (List (List ℕ))) where
  unread_at : fault_at end ≡ None → (a b : ScreenState) (device : DeviceFault) → runs.Read ≡ fault_of_device device
      → HasBroken (refused_by refuses (Refuses end) left) a b device → ⊥
  unread_at none a b reads.Read is h = faulty end reads.Read h.0 none
  unread_at none a b reads.TooLong is h = faulty end reads.TooLong h.0 none
  unread_at none a b reads.Write is h = absurd cc
  unread_at none a b reads.Memory is h = absurd cc

  pub never_unread : fault_at end ≡ None → (ended : Result Ending RunFault)
      → RunComes (refused_by refuses (Refuses end) left) p rules [] o n ended → IsErrOf ended runs.Read → ⊥
  never_unread none (Ok e) h is = absurd cc
  never_unread none (Err runs.Memory) h is = absurd cc
  never_unread none (Err runs.Write) h is = absurd cc
  never_unread none (Err runs.Spent) h is = absurd h
  never_unread none (Err runs.Read) h is = unread_at none o.screen n.screen h.device h.is h.broken

pub where_ok : (r : Result Ending RunFault) (Q : Type 0) → Q → OnOk r Q
where_ok (Ok e) Q q = q
where_ok (Err f) Q q = tt

pub where_err : (r : Result Ending RunFault) (Q : Type 0) → Q → OnErr r Q
where_err (Ok e) Q q = tt
where_err (Err f) Q q = q
