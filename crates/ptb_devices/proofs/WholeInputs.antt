-- This file proves what holds at each exit from reading an entire input, by what was read before and what the last read
-- did.
-- Main lemma: `told_all`.
use Rattle.std.proofs.Common.{◌≡◌, ◌∙◌, ℕ, List, ◌++◌, Option, IfSome, Result, Ok, Err, IfErr, IfOk, IsOk, refl, sym}
use Rattle.std.proofs.Common.{ap, subst}
use Rattle.std.specs.Result.{IsErr, IsErrAnd, IsErrOf}
use Rattle.std.proofs.lemmas.Result.{err_from_is_err_and}
use Rattle.ptb_text.specs.Lines.{input_lines}
use Rattle.ptb_text.specs.declared.allowance.Piece.{Piece}
use Rattle.ptb_text.specs.declared.allowance.Piece.TheVariants as pieces
use Rattle.ptb_text.specs.declared.device_fault.DeviceFault.{DeviceFault}
use Rattle.ptb_text.specs.declared.device_fault.DeviceFault.TheVariants.{Read, TooLong, Memory}
use Rattle.ptb_text.specs.Streams.{ReadsUpTo, ReadsWithin, reads_of}
use Rattle.ptb_text.proofs.PublicLemmas.{ReadsUpTo_after}
use Rattle.ptb_devices.specs.CutLines.{line_of_piece}
use Rattle.ptb_devices.specs.Sources.{IsSourceFault}
use Rattle.ptb_devices.proofs.ReadLines.{IsCutUpTo, lines_to_here}

-- the input that was read, or why it wasn't
module _ {R T : Type 0} (items : T → List (List ℕ)) (limit : ℕ) (remaining : R → Option (List ℕ))
    (given failures : R → ℕ) (reliable : R → Type 0) (old new : R) where
  pub record IsTold (result : Result T DeviceFault) : Type 0 where
    pub lines : IfOk result (λ ls. IfSome (remaining old) (λ b. items ls ≡ input_lines b))
    pub reads : ReadsUpTo limit (reads_of remaining given failures old new)
        (IsOk result) (IsErrOf result TooLong) (IsErrOf result Read)
    pub kind : IfErr result IsSourceFault
    pub sure : reliable old → ¬ IsErrOf result Read

  told_as : (r : Result T DeviceFault) (e fault : DeviceFault) → IsErrAnd r (λ y. y ≡ e) → e ≡ fault
      → IsTold (Err fault) → IsTold r
  told_as r e fault is same told =
      let p = err_from_is_err_and r is in
      subst IsTold (sym (p.1 ∙ ap Err (p.2 ∙ same))) told

  -- so far ls and q were cut from the bytes that were taken
  module _ (mid : R) (left now : ℕ) (ls : List (List ℕ)) (q : Option (List ℕ)) (read : Result Piece DeviceFault)
      (buffer : List ℕ) (before : IsCutUpTo limit left (reads_of remaining given failures old mid) ls q)
      (step : ReadsWithin left now (reads_of remaining given failures mid new) read buffer) where
    -- the reader failed
    pub told_failed : IsErr read → (r : Result T DeviceFault) (e : DeviceFault) → IsErrAnd r (λ y. y ≡ e)
        → e ≡ Read → (reliable old → ⊥) → IsTold r
    told_failed failed r e is kind unreliable = told_as r e Read is kind (record {
      lines = tt;
      reads = ReadsUpTo_after remaining given failures limit old mid new left now before.bytes buffer read
          before.reads step (IsOk {T = T} (Err Read)) (IsErrOf {T = T} (Err Read) TooLong)
          (IsErrOf {T = T} (Err Read) Read) (λ h. absurd cc) (λ h. absurd cc) (λ _. failed)
          (λ other. absurd (other refl));
      kind = tt;
      sure = λ reliable _. unreliable reliable;
    })

    -- a growth was refused memory
    pub told_wanting : IsOk read → (r : Result T DeviceFault) (e : DeviceFault) → IsErrAnd r (λ y. y ≡ e)
        → e ≡ Memory → IsTold r
    told_wanting some r e is kind = told_as r e Memory is kind (record {
      lines = tt;
      reads = ReadsUpTo_after remaining given failures limit old mid new left now before.bytes buffer read
          before.reads step (IsOk {T = T} (Err Memory)) (IsErrOf {T = T} (Err Memory) TooLong)
          (IsErrOf {T = T} (Err Memory) Read) (λ h. absurd cc) (λ h. absurd cc) (λ h. absurd cc) (λ _. some);
      kind = tt;
      sure = λ _ h. absurd cc;
    })

    -- there was none, and that is the end
    pub told_all : read ≡ Ok pieces.End → (x : T) → items x ≡ ls ++ line_of_piece q → IsTold (Ok x)
    told_all is x last = record {
      lines = lines_to_here remaining given failures limit old mid new left now ls q read buffer before step is
          (items x) last;
      reads = ReadsUpTo_after remaining given failures limit old mid new left now before.bytes buffer read
          before.reads step (IsOk {E = DeviceFault} (Ok x)) (IsErrOf (Ok x) TooLong) (IsErrOf (Ok x) Read)
          (λ _. is) (λ h. absurd cc) (λ h. absurd cc) (λ _. rw is refl);
      kind = tt;
      sure = λ _ h. absurd cc;
    }

    -- all that may be taken was
    pub told_long : read ≡ Ok pieces.TooLong → IsTold (Err TooLong)
    told_long is = record {
      lines = tt;
      reads = ReadsUpTo_after remaining given failures limit old mid new left now before.bytes buffer read
          before.reads step (IsOk {T = T} (Err TooLong)) (IsErrOf {T = T} (Err TooLong) TooLong)
          (IsErrOf {T = T} (Err TooLong) Read) (λ h. absurd cc) (λ _. is) (λ h. absurd cc) (λ _. rw is refl);
      kind = tt;
      sure = λ _ h. absurd cc;
    }
