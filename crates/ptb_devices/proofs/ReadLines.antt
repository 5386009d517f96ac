-- This file proves how the input lines come about while an input is read in pieces.
-- Main lemmas: `IsCutUpTo_more` and `lines_to_here`.
use Rattle.std.proofs.Common.{◌≡◌, ℕ, ◌+◌, List, take, [], ◌++◌, Option, None, IfSome, Result, Ok, refl, sym}
use Rattle.std.proofs.Common.{ap, ◌∙◌}
use Rattle.ptb_text.specs.declared.allowance.Piece.{Piece}
use Rattle.ptb_text.specs.declared.allowance.Piece.TheVariants as pieces
use Rattle.ptb_text.specs.declared.device_fault.DeviceFault.{DeviceFault}
use Rattle.ptb_text.specs.Lines.{input_lines}
use Rattle.ptb_text.specs.Streams.{Reads, ReadsWithin, reads_of}
use Rattle.ptb_text.proofs.PublicLemmas.{TakesUpTo, TakesUpTo_more, TakesUpTo_none, all_taken}
use Rattle.ptb_devices.specs.CutLines.{line_of_piece, whole_lines, Cuts, AddsLines}
use Rattle.ptb_devices.proofs.CutLines.{Cuts_more, input_lines-cut}

-- these lines were cut from the bytes that were taken so far
pub record IsCutUpTo {R : Type 0} (limit left : ℕ) (input : Reads R) (lines : List (List ℕ))
    (q : Option (List ℕ)) : Type 0 where
  pub bytes : List ℕ
  pub reads : TakesUpTo limit left input bytes
  pub cut : Cuts None bytes lines q

module _ {R : Type 0} (remaining : R → Option (List ℕ)) (given failures : R → ℕ) (limit : ℕ) where
  pub IsCutUpTo_none : (r : R) → IsCutUpTo limit (limit + 1) (reads_of remaining given failures r r) [] None
  IsCutUpTo_none r =
      record { bytes = []; reads = TakesUpTo_none remaining given failures limit r; cut = (refl, refl) }

  module _ (old mid new : R) (left now : ℕ) (ls : List (List ℕ)) (q : Option (List ℕ))
      (result : Result Piece DeviceFault) (buffer : List ℕ)
      (before : IsCutUpTo limit left (reads_of remaining given failures old mid) ls q)
      (step : ReadsWithin left now (reads_of remaining given failures mid new) result buffer) where
    pub IsCutUpTo_more : (n : ℕ) → result ≡ Ok (pieces.Bytes n) → (ms : List (List ℕ)) (r : Option (List ℕ))
        → AddsLines q (take n buffer) ls ms r
        → IsCutUpTo limit now (reads_of remaining given failures old new) ms r
    IsCutUpTo_more n is ms r adds =
        let piece : List ℕ = take n buffer in
        let both : Cuts None (before.bytes ++ piece) (ls ++ whole_lines q piece) r =
        Cuts_more None q r before.bytes piece ls (whole_lines q piece) before.cut (refl, adds.1) in
        record {
          bytes = before.bytes ++ piece;
          reads = TakesUpTo_more remaining given failures limit old mid new left now before.bytes buffer result
              before.reads step n is;
          cut = (both.0 ∙ sym adds.0, both.1);
        }

    -- at the end of the bytes, the lines are all of theirs
    pub lines_to_here : result ≡ Ok pieces.End → (ms : List (List ℕ)) → ms ≡ ls ++ line_of_piece q
        → IfSome (remaining old) (λ all. ms ≡ input_lines all)
    lines_to_here is ms last =
        let whole : ms ≡ input_lines before.bytes =
        last ∙ ap (λ l. l ++ line_of_piece q) (sym before.cut.0)
        ∙ ap (λ s. whole_lines None before.bytes ++ line_of_piece s)
        (sym before.cut.1)
        ∙ sym (input_lines-cut before.bytes) in
        all_taken remaining given failures limit old mid new left now before.bytes buffer result before.reads step
        is (λ all. ms ≡ input_lines all) whole
