-- This file proves the result for the next line of an input, from what came while it was asked for.
-- Main lemmas: `last_given` and `none_given`.
use Rattle.std.proofs.Common.{◌≡◌, ℕ, ◌≤◌, Bool, true, false, List, [], ◌∷◌, Option, Some, None}
use Rattle.std.proofs.Common.{refl, sym, ap, subst, ◌∙◌, arith}
use Rattle.std.specs.Borrow.{Bor}
use Rattle.std.specs.Prelude.{IsSome}
use Rattle.ptb_devices.specs.declared.line_buffer.InputEnd.{InputEnd}
use Rattle.ptb_devices.specs.declared.line_buffer.InputEnd.TheVariants.{Open, Ended, Failed, Exceeded}
use Rattle.ptb_text.specs.declared.device_fault.DeviceFault.{DeviceFault}
use Rattle.ptb_text.specs.declared.device_fault.DeviceFault.TheVariants.{Read, TooLong}
use Rattle.ptb_devices.specs.CutLines.{kept_bytes}
use Rattle.ptb_devices.specs.Sources.{IsSourceFault, Loses, NoneLeft, ready_lines}
use Rattle.ptb_devices.specs.Inputs.{InputState, InputNow, open_piece, most_lines, known_lines}
use Rattle.ptb_devices.specs.Inputs.{CutsLine, CutsAll, TakesLine, TakesWhole, missed_at, missed_in}
use Rattle.ptb_devices.specs.Inputs.{ReadsOn, fault_at}
use Rattle.ptb_devices.specs.InputLaws.{ReadsOn_then}
use Rattle.ptb_devices.proofs.ContinuedReads.{ReadsOn_forget, ReadsOn_line, ReadsOn_whole, ReadsOn_all, ReadsOn_last}

-- where none is left after no lines, none was left before
pub none_left_before : (a b : Option (List (List ℕ))) → Loses a b [] → NoneLeft b → NoneLeft a
none_left_before None b l n = tt
none_left_before (Some xs) None l n = absurd l
none_left_before (Some xs) (Some ys) l n = l ∙ n

-- what a source refuses a line for is a fault of a source
pub refused_by_source : (end : InputEnd) (fault : DeviceFault) → fault_at end ≡ Some fault → IsSourceFault fault
refused_by_source Open fault e = absurd cc
refused_by_source Ended fault e = absurd cc
refused_by_source Failed fault e = let same : Read ≡ fault = cc in subst IsSourceFault same tt
refused_by_source Exceeded fault e = let same : TooLong ≡ fault = cc in subst IsSourceFault same tt

-- a fault is answered where a line was asked for and could not be given
pub fault_reads : (m n : InputNow) (fault : DeviceFault) → fault_at n.state.end ≡ Some fault → ReadsOn 1 m [] n
    → ReadsOn (missed_in n.state) m [] n
fault_reads m n fault e reads =
    subst (λ (k : ℕ). ReadsOn k m [] n) (sym (by_end n.state.end n.state.is_given e)) reads where
      by_end : (end : InputEnd) (given : Bool) → fault_at end ≡ Some fault → missed_at end given ≡ 1
      by_end Open given e = absurd cc
      by_end Ended given e = absurd cc
      by_end Failed given e = refl
      by_end Exceeded given e = refl

-- a line that is given was asked for with success
pub given_asked : (end old : InputEnd) (given : Bool) → fault_at end ≡ fault_at old
    → missed_at end true ≤ missed_at old given
given_asked Open old given e = omega arith
given_asked Ended old given e = omega arith
given_asked Failed Open given e = absurd cc
given_asked Failed Ended given e = absurd cc
given_asked Failed Failed given e = omega arith
given_asked Failed Exceeded given e = omega arith
given_asked Exceeded Open given e = absurd cc
given_asked Exceeded Ended given e = absurd cc
given_asked Exceeded Failed given e = omega arith
given_asked Exceeded Exceeded given e = omega arith

pub cut_asked : (a b : InputState) (old : InputState) → CutsLine a b → fault_at a.end ≡ fault_at old.end
    → missed_in b ≤ missed_in old
cut_asked a b old cuts same = subst (λ (s : InputState). missed_in s ≤ missed_in old) (sym cuts.rest)
    (given_asked a.end old.end old.is_given same)

-- before the end, no line is asked for without success
open_unasked : (s : InputState) → s.end ≡ Open → missed_in s ≡ 0
open_unasked s e = ap (λ end. missed_at end s.is_given) e

-- a line that is at hand is given before the end
pub taken_ready : (m : InputNow) (a b : InputState) (r : Option (Bor (List ℕ))) → m.state.end ≡ Open
    → a ≡ record m.state { piece = open_piece m.state; is_given = false } → TakesWhole a r b
    → ReadsOn (missed_in b) m (ready_lines r) (record m { state = b }) × (missed_in b ≤ missed_in m.state)
taken_ready m a b None goes is takes =
    let same : b ≡ record m.state { piece = open_piece m.state; is_given = false } = takes ∙ is in
    let none : missed_in b ≡ 0 = open_unasked b (ap (λ (s : InputState). s.end) same ∙ goes) in (
      subst (λ (s : InputState). ReadsOn (missed_in b) m [] (record m { state = s })) (sym same)
          (ReadsOn_forget (missed_in b) m),
      omega (arith, none),
    )
taken_ready m a b (Some line) goes is takes =
    let n : InputState = record m.state { piece = open_piece m.state; is_given = false } in
    let whole : TakesLine n line.now b = subst (λ (s : InputState). TakesLine s line.now b) is takes in
    let none : missed_in b ≡ 0 = open_unasked b (ap (λ (s : InputState). s.end) whole.rest ∙ goes) in (
      ReadsOn_then 1 0 (missed_in b) m (record m { state = n }) (record m { state = b }) [] (line.now ∷ [])
          (ReadsOn_forget 1 m) (ReadsOn_whole 0 (record m { state = n }) line.now b refl whole)
          (omega arith) (omega arith),
      omega (arith, none),
    )

-- where all that has come is cut, nothing waits once the end has come
pub drained : {wanted : ℕ} {given : List (List ℕ)} (m n : InputNow) → ReadsOn wanted m given n → m.state.waiting ≡ []
    → n.state.end ≡ Ended → n.state.waiting ≡ []
drained m n reads none ended = reads.drained (λ _. none) (λ e. absurd (let clash : Ended ≡ Open = sym ended ∙ e in cc))

pub true_or_false : {b : Bool} → b ≡ false → b ≡ true → ⊥
true_or_false e f = absurd (let clash : false ≡ true = sym e ∙ f in cc)

-- a line was asked for, and none has been given so far
module _ (m n : InputNow) (reads : ReadsOn 1 m [] n) where
  -- one is cut from what has come
  pub line_given : (b : InputState) → n.state.is_given ≡ false → CutsLine n.state b
      → ReadsOn (missed_in b) m (kept_bytes b.piece ∷ []) (record n { state = b })
  line_given b kept cuts =
      ReadsOn_then 1 0 (missed_in b) m n (record n { state = b }) [] (kept_bytes b.piece ∷ []) reads
      (ReadsOn_line 0 n b kept cuts) (omega arith) (omega arith)

  -- none is complete in it
  pub all_cut : (b : InputState) → n.state.is_given ≡ false → CutsAll n.state b
      → ReadsOn 1 m [] (record n { state = b })
  all_cut b kept cuts = ReadsOn_then 1 0 1 m n (record n { state = b }) [] [] reads (ReadsOn_all 0 n b kept cuts)
      (omega arith) (omega arith)

  -- more came, or the end or a fault
  pub read_on : (o : InputNow) → ReadsOn 1 n [] o → ReadsOn 1 m [] o
  read_on o more = ReadsOn_then 1 1 1 m n o [] [] reads more (omega arith) (omega arith)

  -- the input is at its end
  module _ (given : n.state.is_given ≡ false) (none : n.state.waiting ≡ []) (ended : n.state.end ≡ Ended) where
    abbrev at_end : Bool → InputState
    at_end t = record { piece = n.state.piece; is_given = t; waiting = []; left = n.state.left; end = Ended }

    at_end-is : (t : Bool) → record n.state { is_given = t } ≡ at_end t
    at_end-is t = ap (λ w. record n.state { is_given = t; waiting = w }) none
        ∙ ap (λ e. record n.state { is_given = t; waiting = []; end = e }) ended

    at_end-state : n.state ≡ at_end false
    at_end-state = ap (λ t. record n.state { is_given = t }) given ∙ at_end-is false

    abbrev last_state : Option (List ℕ) → Bool → InputState
    last_state p t = record { piece = p; is_given = t; waiting = []; left = n.state.left; end = Ended }

    last_at : (p : Option (List ℕ)) → IsSome p → ReadsOn 1 m [] (record n { state = last_state p false })
        → ReadsOn 0 m (kept_bytes p ∷ []) (record n { state = last_state p true })
    last_at None h r = absurd (let clash : false ≡ true = h in cc)
    last_at (Some kept) h r =
        ReadsOn_then 1 0 0 m (record n { state = last_state (Some kept) false })
        (record n { state = last_state (Some kept) true }) [] (kept ∷ []) r
        (ReadsOn_last 0 n.state.left n.bytes n.given n.failures (Some kept)) (omega arith) (omega arith)

    -- the last piece is given if one has begun
    pub last_given : (b : InputState) (t : Bool) → b ≡ record n.state { is_given = t } → t ≡ true → IsSome n.state.piece
        → ReadsOn (missed_in b) m (kept_bytes b.piece ∷ []) (record n { state = b })
    last_given b t is true_is begun =
        let all : b ≡ at_end true = is ∙ at_end-is t ∙ ap at_end true_is in
        subst (λ (s : InputState). ReadsOn (missed_in s) m (kept_bytes s.piece ∷ []) (record n { state = s })) (sym all)
        (last_at n.state.piece begun
        (subst (λ (s : InputState). ReadsOn 1 m [] (record n { state = s })) at_end-state reads))

    -- and none is asked for without success
    pub last_asked : (b : InputState) (t : Bool) → b ≡ record n.state { is_given = t } → t ≡ true → (k : ℕ)
        → missed_in b ≤ k
    last_asked b t is true_is k = subst (λ (s : InputState). missed_in s ≤ k)
        (sym (is ∙ at_end-is t ∙ ap at_end true_is))
        (omega arith)

    none_at : (p : Option (List ℕ)) (a : Option (List ℕ)) → (IsSome p → ⊥)
        → NoneLeft (known_lines (record n {
          state = record {
            piece = p;
            is_given = false;
            waiting = [];
            left = n.state.left;
            end = Ended;
          };
          bytes = a;
        }))
    none_at None None h = tt
    none_at None (Some bytes) h = refl
    none_at (Some kept) a h = absurd (h refl)

    most_at : (p : Option (List ℕ)) → (IsSome p → ⊥)
        → most_lines (record { piece = p; is_given = false; waiting = []; left = n.state.left; end = Ended }) ≡ 0
    most_at None h = refl
    most_at (Some kept) h = absurd (h refl)

    -- and none can be given
    pub none_more : (b : InputState) (t : Bool) → b ≡ record n.state { is_given = t } → t ≡ false
        → (IsSome n.state.piece → ⊥) → most_lines b ≡ 0
    none_more b t is false_is unstarted = ap most_lines (is ∙ at_end-is t ∙ ap at_end false_is)
        ∙ most_at n.state.piece unstarted

    -- else no line is left
    pub none_given : (b : InputState) (t : Bool) → b ≡ record n.state { is_given = t } → t ≡ false
        → (IsSome n.state.piece → ⊥)
        → ReadsOn (missed_in b) m [] (record n { state = b }) × NoneLeft (known_lines (record n { state = b }))
    none_given b t is false_is unstarted =
        let all : b ≡ at_end false = is ∙ at_end-is t ∙ ap at_end false_is in
        subst (λ (s : InputState). ReadsOn (missed_in s) m [] (record n { state = s })
        × NoneLeft (known_lines (record n { state = s }))) (sym all) (
          subst (λ (s : InputState). ReadsOn 1 m [] (record n { state = s })) at_end-state reads,
          none_at n.state.piece n.bytes unstarted,
        )
