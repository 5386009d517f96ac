-- This file proves what entering the lines of a text one after the other gives.
-- Main lemmas: `after_lines-append` and `all_accepted`.
use Rattle.std.specs.Prelude.{slice_index_or}
use Rattle.std.proofs.Common.{◌≡◌, ℕ, suc, ◌+◌, ◌-◌, ◌<◌, ◌≤◌, List, [], ◌∷◌, ◌++◌, length, map}
use Rattle.std.proofs.Common.{take, drop, Option, Some, None, IfSome, Result, Ok, Err, IsOk, IfOk}
use Rattle.std.proofs.Common.{IfErr, refl, subst, sym, ap, ◌∙◌, arith, append-nil, length-take}
use Rattle.std.proofs.Common.{length-drop}
use Rattle.std.proofs.lemmas.List.{take-append-drop, drop-drop, get_or-drop}
use Rattle.std.proofs.Math.Seq.{take-add}
use Rattle.std.proofs.lemmas.Result.{err_from_is_err_and}
use Rattle.std.specs.Result.{IsErrAnd, is_ok}
use Rattle.ptb_text.specs.declared.fault.LoadFault.{LoadFault}
use Rattle.ptb_text.specs.declared.fault.LoadFault.TheVariants.{Memory, Read, TooLong}
use Rattle.ptb_text.specs.EnteredLines.{IsLineFault}
use Rattle.ptb_text.specs.Lines.{lines, program_lines, tab_as_space}
use Rattle.ptb_text.specs.ProgramTexts.{AcceptsLines, FailsToLoad, HasTextAt, IsLoaded, IsRefusedAt, Loads}
use Rattle.ptb_text.specs.ProgramTexts.{ReadsProgram, StoresTextAt}
use Rattle.ptb_text.specs.Statements.{HasText, Statements, StoredProgram, after_line, after_lines, program_limit}
use Rattle.ptb_text.specs.Streams.{Reads}
use Rattle.ptb_text.proofs.Pieces.{lines-spaces}

abbrev Lines : Type 0
Lines = List (List ℕ)

-- the lines after those that were accepted are entered into what they gave
pub after_lines-append : (ds es : Lines) (k : ℕ) (p q : Statements) (memory : ℕ) → after_lines ds k p memory ≡ Ok q
    → after_lines (ds ++ es) k p memory ≡ after_lines es (k + length ds) q memory
unfolding after_lines
after_lines-append [] es k p q memory e = let same : p ≡ q = cc in let here : k + 0 ≡ k = omega arith in
    rw (here, same) refl
after_lines-append (d ∷ ds) es k p q memory e =
    by_first (λ p' h. after_lines-append ds es (k + 1) p' q memory h) (after_line p memory d) e
  where
    by_first : ((p' : Statements) → after_lines ds (k + 1) p' memory ≡ Ok q
        → after_lines (ds ++ es) (k + 1) p' memory ≡ after_lines es ((k + 1) + length ds) q memory)
        → (r : Result Statements LoadFault)
        → elim r as (λ _. Result Statements (ℕ × LoadFault)) [
          | Ok p' ↦ after_lines ds (k + 1) p' memory
          | Err fault ↦ Err (k, fault)
        ] ≡ Ok q
        → elim r as (λ _. Result Statements (ℕ × LoadFault)) [
          | Ok p' ↦ after_lines (ds ++ es) (k + 1) p' memory
          | Err fault ↦ Err (k, fault)
        ] ≡ after_lines es (k + suc (length ds)) q memory
    by_first others (Ok p') h = let place : k + suc (length ds) ≡ (k + 1) + length ds = omega arith in
        rw place (others p' h)
    by_first others (Err fault) h = cc

-- one line alone
one_line : (line : List ℕ) (k : ℕ) (p : Statements) (memory : ℕ) (r : Result Statements LoadFault)
    → after_line p memory line ≡ r
    → after_lines (line ∷ []) k p memory ≡ elim r as (λ _. Result Statements (ℕ × LoadFault)) [
      | Ok q ↦ Ok q
      | Err fault ↦ Err (k, fault)
    ]
unfolding after_lines
one_line line k p memory r e =
    ap (λ r. elim r as (λ _. Result Statements (ℕ × LoadFault)) [ Ok q ↦ Ok q | Err fault ↦ Err (k, fault) ]) e

refused_first : (line : List ℕ) (rest : Lines) (k : ℕ) (p : Statements) (memory : ℕ) (f : LoadFault)
    → after_line p memory line ≡ Err f → after_lines (line ∷ rest) k p memory ≡ Err (k, f)
unfolding after_lines
refused_first line rest k p memory f e = ap (λ r. elim r as (λ _. Result Statements (ℕ × LoadFault))
    [ Ok q ↦ after_lines rest (k + 1) q memory | Err fault ↦ Err (k, fault) ]) e

-- n lines were accepted, and a line and others are left
module _ (all : Lines) (n : ℕ) (line : List ℕ) (rest : Lines) (left : line ∷ rest ≡ drop n all) where
  pub in_range : n < length all
  in_range = omega (arith, ap length left, length-drop n all)

  pub drop_next : rest ≡ drop (n + 1) all
  drop_next = ap (drop 1) left ∙ drop-drop 1 n all

  take_next : take (n + 1) all ≡ take n all ++ line ∷ []
  take_next = take-add n 1 all ∙ ap (λ r. take n all ++ take 1 r) (sym left)

  pub line_there : slice_index_or all (n + 1 - 1) [] ≡ line
  line_there =
      let here : n + 1 - 1 ≡ n + 0 = omega arith in
      ap (λ i. slice_index_or all i []) here ∙ sym (get_or-drop n all 0 [])
      ∙ ap (λ ls. slice_index_or ls 0 []) (sym left)

  pub has_text : HasText line → HasTextAt all (n + 1)
  has_text h = (omega (arith, in_range), rw line_there h)

  count : length (take n all) ≡ n
  count = length-take n all ∙ omega (arith, in_range)

  module _ (memory : ℕ) (p : Statements) (so_far : after_lines (take n all) 1 [] memory ≡ Ok p) where
    -- the line is accepted too
    pub accepted : (q : Statements) → after_line p memory line ≡ Ok q
        → after_lines (take (n + 1) all) 1 [] memory ≡ Ok q
    accepted q e =
        rw take_next
        (after_lines-append (take n all) (line ∷ []) 1 [] p memory so_far ∙ one_line line _ p memory (Ok q) e)

    pub acceptable : IsOk (after_line p memory line) → IsOk (after_lines (take (n + 1) all) 1 [] memory)
    acceptable ok = by_answer (after_line p memory line) refl ok
      where
        by_answer : (r : Result Statements LoadFault) → after_line p memory line ≡ r → IsOk r
            → IsOk (after_lines (take (n + 1) all) 1 [] memory)
        by_answer (Ok q) e h = ap is_ok (accepted q e)
        by_answer (Err fault) e h = cc

    -- or it is the first that is refused
    pub refused : (f : LoadFault) → after_line p memory line ≡ Err f → after_lines all 1 [] memory ≡ Err (n + 1, f)
    refused f e =
        let whole = ap (λ ls. after_lines ls 1 [] memory)
        (sym (take-append-drop n all) ∙ ap (λ r. take n all ++ r) (sym left)) in
        let place : 1 + length (take n all) ≡ n + 1 = omega (arith, count) in
        whole ∙ after_lines-append (take n all) (line ∷ rest) 1 [] p memory so_far
        ∙ refused_first line rest _ p memory f e ∙ ap (λ k. Err (k, f)) place

-- all lines were accepted
pub all_accepted : (all : Lines) (n memory : ℕ) (p : Statements) → [] ≡ drop n all
    → after_lines (take n all) 1 [] memory ≡ Ok p → after_lines all 1 [] memory ≡ Ok p
all_accepted all n memory p none so_far =
    let whole : take n all ≡ all = sym (append-nil (take n all)) ∙ ap (λ r. take n all ++ r) none
    ∙ take-append-drop n all in
    rw whole at so_far

-- before the first line
pub none_entered : (memory : ℕ) (p : Statements) → p ≡ [] → after_lines [] 1 [] memory ≡ Ok p
unfolding after_lines
none_entered memory p none = ap Ok (sym none)

-- ---- an entire text, whose bytes may be known

-- the lines that are entered are those of the text
module _ (known : Option (List ℕ)) (text spaced : List ℕ) (memory : ℕ) (is : IfSome known (λ b. b ≡ text))
    (written_over : spaced ≡ map tab_as_space text) where
  same_lines : lines spaced ≡ program_lines text
  same_lines = ap lines written_over ∙ lines-spaces text

  pub IsLoaded-from_lines : (r : Result StoredProgram (ℕ × LoadFault)) → length text ≤ program_limit
      → IfOk r (λ p. after_lines (lines spaced) 1 [] memory ≡ Ok p.lines)
      → IfOk r (λ p. IfSome known (λ b. IsLoaded memory b p.lines))
  IsLoaded-from_lines (Err e) short ok = tt
  IsLoaded-from_lines (Ok p) short ok = if_known known is
    where
      if_known : (o : Option (List ℕ)) → IfSome o (λ b. b ≡ text) → IfSome o (λ b. IsLoaded memory b p.lines)
      if_known None _ = tt
      if_known (Some b) same = rw same (short, rw same_lines at ok)

  pub IsRefusedAt-from_lines : (r : Result StoredProgram (ℕ × LoadFault)) → length text ≤ program_limit
      → IfErr r (λ e. IsLineFault e.1 → after_lines (lines spaced) 1 [] memory ≡ Err e)
      → IfErr r (λ e. IsLineFault e.1 → IfSome known (λ b. IsRefusedAt memory b e))
  IsRefusedAt-from_lines (Ok p) short refusal = tt
  IsRefusedAt-from_lines (Err e) short refusal = λ line_fault. if_known line_fault known is
    where
      if_known : IsLineFault e.1 → (o : Option (List ℕ)) → IfSome o (λ b. b ≡ text)
          → IfSome o (λ b. IsRefusedAt memory b e)
      if_known line_fault None _ = tt
      if_known line_fault (Some b) same = rw same (short, rw same_lines at (refusal line_fault))

  pub AcceptsLines-from_lines : (r : Result StoredProgram (ℕ × LoadFault))
      → IfErr r (λ e. ¬ IsLineFault e.1 → (e.1 ≡ Memory) × IsOk (after_lines (take e.0 (lines spaced)) 1 [] memory))
      → IfErr r (λ e. e.1 ≡ Memory → IfSome known (λ b. AcceptsLines memory b e.0))
  AcceptsLines-from_lines (Ok p) accepts = tt
  AcceptsLines-from_lines (Err e) accepts =
      λ memory_fault. if_known (accepts (λ line_fault. rw memory_fault at line_fault)).1 known is
    where
      if_known : IsOk (after_lines (take e.0 (lines spaced)) 1 [] memory) → (o : Option (List ℕ))
          → IfSome o (λ b. b ≡ text) → IfSome o (λ b. AcceptsLines memory b e.0)
      if_known ok None _ = tt
      if_known ok (Some b) same = rw same (rw same_lines at ok)

  pub StoresTextAt-from_lines : (r : Result StoredProgram (ℕ × LoadFault)) → length text ≤ program_limit
      → IfErr r (λ e. e.1 ≡ Memory → HasTextAt (lines spaced) e.0)
      → IfErr r (λ e. e.1 ≡ Memory → 0 < e.0 → IfSome known (λ b. StoresTextAt b e.0))
  StoresTextAt-from_lines (Ok p) short stores = tt
  StoresTextAt-from_lines (Err e) short stores = λ memory_fault. λ _. if_known (stores memory_fault) known is
    where
      if_known : HasTextAt (lines spaced) e.0 → (o : Option (List ℕ)) → IfSome o (λ b. b ≡ text)
          → IfSome o (λ b. StoresTextAt b e.0)
      if_known there None _ = tt
      if_known there (Some b) same = rw same (short, rw same_lines at there)

-- no line is refused before the first
pub AcceptsLines-none : (known : Option (List ℕ)) (memory : ℕ) → IfSome known (λ b. AcceptsLines memory b 0)
unfolding after_lines
AcceptsLines-none None memory = tt
AcceptsLines-none (Some b) memory = refl

not_too_long : TooLong ≡ Memory → ⊥
not_too_long e = cc e

not_read : Read ≡ Memory → ⊥
not_read e = cc e

only_memory : (e : ℕ × LoadFault) → (¬ IsLineFault e.1 → e.1 ≡ Memory) → (f : LoadFault) → e.1 ≡ f → ¬ IsLineFault f
    → f ≡ Memory
only_memory e only f is other = sym is ∙ only (subst (λ (g : LoadFault). ¬ IsLineFault g) (sym is) other)

-- ---- what loading a text results in

-- the text could not be read
module _ (memory : ℕ) (known : Option (List ℕ)) (e : ℕ × LoadFault) (whole : e.0 ≡ 0)
    (no_line : ¬ IsLineFault e.1) where
  unloaded : Loads memory known (Err e)
  unloaded = record {
    size = tt;
    ok = tt;
    refused = λ line_fault. absurd (no_line line_fault);
    too_long = λ _. whole;
    unread = λ _. whole;
    memory_last =
        λ _. subst (λ (k : ℕ). IfSome known (λ b. AcceptsLines memory b k)) (sym whole)
        (AcceptsLines-none known memory);
    memory_line = λ _. λ some. absurd (omega (arith, whole, some));
  }

  pub unread_loads : (r : Result StoredProgram (ℕ × LoadFault)) → IsErrAnd r (λ y. y ≡ e) → Loads memory known r
  unread_loads r is =
      let p = err_from_is_err_and r is in
      subst (Loads memory known) (sym (p.1 ∙ ap Err p.2)) unloaded

module _ {R : Type 0} (input : Reads R) where
  pub unread_reads : {U : Type 0} (e : ℕ × LoadFault) (r : Result U (ℕ × LoadFault)) → IsErrAnd r (λ y. y ≡ e)
      → ReadsProgram {T = U} input (Err e) → ReadsProgram input r
  unread_reads {U} e r is reads =
      let p = err_from_is_err_and r is in
      subst (ReadsProgram {T = U} input) (sym (p.1 ∙ ap Err p.2)) reads

pub unread_sure : {U : Type 0} (e : ℕ × LoadFault) (r : Result U (ℕ × LoadFault)) → IsErrAnd r (λ y. y ≡ e)
    → ¬ (e.1 ≡ Read) → ¬ FailsToLoad r Read
unread_sure {U} e r is none =
    let p = err_from_is_err_and r is in
    subst (λ (r : Result U (ℕ × LoadFault)). ¬ FailsToLoad r Read) (sym (p.1 ∙ ap Err p.2)) none

-- the text was read, and its lines were entered
module _ (known : Option (List ℕ)) (memory : ℕ) (text spaced : List ℕ) (is : IfSome known (λ b. b ≡ text))
    (written_over : spaced ≡ map tab_as_space text) (short : length text ≤ program_limit) (room : ℕ)
    (same : room ≡ memory) where
  pub loaded : (result : Result StoredProgram (ℕ × LoadFault)) → IfOk result (λ p. p.memory ≡ room)
      → IfOk result (λ p. after_lines (lines spaced) 1 [] room ≡ Ok p.lines)
      → IfErr result (λ e. IsLineFault e.1 → after_lines (lines spaced) 1 [] room ≡ Err e)
      → IfErr result (λ e. ¬ IsLineFault e.1 → (e.1 ≡ Memory) × IsOk (after_lines (take e.0 (lines spaced)) 1 [] room))
      → IfErr result (λ e. e.1 ≡ Memory → HasTextAt (lines spaced) e.0)
      → Loads memory known result
  loaded (Ok p) memory_kept ok refusal accepts stores = record {
    size = memory_kept ∙ same;
    ok =
        IsLoaded-from_lines known text spaced memory is written_over (Ok p) short
        (subst (λ (m : ℕ). after_lines (lines spaced) 1 [] m ≡ Ok p.lines) same ok);
    refused = tt;
    too_long = tt;
    unread = tt;
    memory_last = tt;
    memory_line = tt;
  }
  loaded (Err e) memory_kept ok refusal accepts stores = record {
    size = tt;
    ok = tt;
    refused =
        IsRefusedAt-from_lines known text spaced memory is written_over (Err e) short
        (subst (λ (m : ℕ). IsLineFault e.1 → after_lines (lines spaced) 1 [] m ≡ Err e) same refusal);
    too_long = λ h. absurd (not_too_long (only_memory e (λ h. (accepts h).0) TooLong h (λ l. l)));
    unread = λ h. absurd (not_read (only_memory e (λ h. (accepts h).0) Read h (λ l. l)));
    memory_last = AcceptsLines-from_lines known text spaced memory is written_over (Err e) (subst (λ (m : ℕ). ¬
        IsLineFault e.1 → (e.1 ≡ Memory) × IsOk (after_lines (take e.0 (lines spaced)) 1 [] m)) same accepts);
    memory_line = StoresTextAt-from_lines known text spaced memory is written_over (Err e) short stores;
  }

-- what was read stays what was read, whatever came of the lines
module _ {R T U : Type 0} (input : Reads R) (text : T) (whole : ReadsProgram input (Ok text)) where
  pub loaded_reads : (P : ℕ × LoadFault → Type 0) (result : Result U (ℕ × LoadFault))
      → IfErr result (λ e. ¬ IsLineFault e.1 → (e.1 ≡ Memory) × P e) → ReadsProgram input result
  loaded_reads P (Ok p) other = whole
  loaded_reads P (Err e) other = record {
    consumed = whole.consumed;
    given = whole.given;
    end = λ _. whole.end tt;
    within = λ _. whole.within tt;
    given_within = λ _. whole.given_within tt;
    longer = λ h. absurd (not_too_long (only_memory e (λ h. (other h).0) TooLong h (λ l. l)));
    given_longer = λ h. absurd (not_too_long (only_memory e (λ h. (other h).0) TooLong h (λ l. l)));
    has_failed = λ h. absurd (not_read (only_memory e (λ h. (other h).0) Read h (λ l. l)));
    unfailed = λ _. whole.unfailed (λ h. h);
    later = whole.later;
  }

-- a reader was at no fault while lines were entered
pub loaded_sure : {U : Type 0} (P : ℕ × LoadFault → Type 0) (result : Result U (ℕ × LoadFault))
    → IfErr result (λ e. ¬ IsLineFault e.1 → (e.1 ≡ Memory) × P e) → ¬ FailsToLoad result Read
loaded_sure P (Ok p) other = λ h. h
loaded_sure P (Err e) other = λ h. not_read (only_memory e (λ h. (other h).0) Read h (λ l. l))
