-- This file proves that what is in the fields of a program is what its lines show.
-- Main lemma: `IsEntry-shown`.
use Rattle.std.proofs.Common.{◌≡◌, ℕ, suc, ◌+◌, ◌*◌, ◌<◌, ◌≤◌, true, List, [], ◌++◌, length, map}
use Rattle.std.proofs.Common.{take, drop, get_or, set, sym, ap, ◌∙◌, arith}
use Rattle.std.specs.List.{insert, remove, remove_range, splice}
use Rattle.std.proofs.lemmas.List.{get_or-map, length-map, set_split}
use Rattle.ptb_text.specs.declared.program.Statement.{Statement}
use Rattle.ptb_text.specs.declared.program.Program.TheInside.{Inside}
use Rattle.ptb_text.specs.Statements.{Statements, StoredProgram, IsMemorySize, cost, is_program}
use Rattle.ptb_text.specs.Program.{stored_program, text_in, texts_length, laid_out, IsKept}
use Rattle.ptb_text.specs.NumberOrder.{statement_number}
use Rattle.ptb_text.proofs.Pool.{shown, entries, texts, entries-from_laid_out, texts-from_laid_out}
use Rattle.ptb_text.proofs.Pool.{shown-entries, laid_out-entries, lengths-entries, length-texts}
use Rattle.ptb_text.proofs.Pool.{cost-texts, IsEntry, IsEntry-read, entries-insert, entries-set}
use Rattle.ptb_text.proofs.Pool.{entries-remove, texts-splice, texts-remove}
use Rattle.ptb_text.proofs.SoundPrograms.{StatementFacts_at}

pub length_shown : (f : Inside) (p : StoredProgram) → stored_program f ≡ p → length f.statements.items ≡ length p.lines
length_shown f p shows = sym (length-map f.statements.items (shown f.pool.items)) ∙ ap (λ q. length q.lines) shows

-- a place of a line is one of a statement
pub stored_place : (f : Inside) (p : StoredProgram) → stored_program f ≡ p → (at : ℕ) → at < length p.lines
    → at < f.statements.len
stored_place f p shows at inside = omega (arith, length_shown f p shows, inside, f.statements.ok.0)

-- a statement that is read is the line at its place
pub line_read : (f : Inside) (p : StoredProgram) → stored_program f ≡ p → (i : ℕ) (s : Statement) → i < length p.lines
    → s ≡ get_or f.statements.items i s → get_or p.lines i (0, []) ≡ shown f.pool.items s
line_read f p shows i s in_range read =
    let inside : i < length f.statements.items = omega (arith, length_shown f p shows) in
    ap (λ q. get_or q.lines i (0, [])) (sym shows)
    ∙ get_or-map (shown f.pool.items) f.statements.items i s (0, []) inside ∙ ap (shown f.pool.items) (sym read)

-- the same of a statement that is looked up
pub record IsShownAt (p : StoredProgram) (i n : ℕ) : Type 0 where
  pub in_range : i < length p.lines
  pub has_number : statement_number p.lines i ≡ n
  pub low : 0 < n
  pub high : n ≤ 32767

pub IsShownAt-from_read : (f : Inside) (p : StoredProgram) → stored_program f ≡ p → IsKept f → (i : ℕ) (s : Statement)
    → i < length f.statements.items → s ≡ get_or f.statements.items i s → IsShownAt p i s.number
IsShownAt-from_read f p shows kept i s in_range read =
    let inside : i < length p.lines = omega (arith, length_shown f p shows) in
    let line = line_read f p shows i s inside read in
    let sound : is_program p.lines ≡ true = rw (← shows) kept.sound.is_map in
    let facts = StatementFacts_at p.lines sound i s.number (text_in f.pool.items s) inside line in
    record { in_range = inside; has_number = ap (λ t. t.0) line; low = facts.low; high = facts.high }

pub memory_shown : (f : Inside) (p : StoredProgram) → stored_program f ≡ p → f.memory ≡ p.memory
memory_shown f p shows = ap (λ q. q.memory) shows

pub is_program_shown : (f : Inside) (p : StoredProgram) → stored_program f ≡ p → IsKept f → is_program p.lines ≡ true
is_program_shown f p shows kept = ap (λ q. is_program q.lines) (sym shows) ∙ kept.sound.is_map

-- fields with the same statements, texts and memory show the same program
pub same_shown : (f g : Inside) → g.statements.items ≡ f.statements.items → g.pool.items ≡ f.pool.items
    → g.memory ≡ f.memory → stored_program g ≡ stored_program f
same_shown f g items pool memory = λ i. record { lines = map (shown (pool i)) (items i); memory = memory i }

-- ---- the fields are what their program makes them

pub record IsLayout (f : Inside) (p : Statements) : Type 0 where
  pub statements_are : f.statements.items ≡ entries 0 p
  pub pool_is : f.pool.items ≡ texts p

pub IsLayout-from_kept : (f : Inside) (p : StoredProgram) → stored_program f ≡ p → IsKept f → IsLayout f p.lines
IsLayout-from_kept f p shows kept =
    let lines : map (shown f.pool.items) f.statements.items ≡ p.lines = ap (λ q. q.lines) shows in
    record {
      statements_are =
          entries-from_laid_out f.pool.items 0 f.statements.items kept.without_gaps (omega (arith, kept.to_the_end))
          ∙ ap (entries 0) lines;
      pool_is =
          texts-from_laid_out f.pool.items 0 f.statements.items kept.without_gaps (omega (arith, kept.to_the_end))
          ∙ ap texts lines;
    }

pub lines_shown : (f : Inside) (p : Statements) → IsLayout f p → map (shown f.pool.items) f.statements.items ≡ p
lines_shown f p layout =
    ap (map (shown f.pool.items)) layout.statements_are ∙ shown-entries f.pool.items 0 p layout.pool_is

pub IsKept-from_layout : (f : Inside) (p : Statements) → IsLayout f p → is_program p ≡ true → cost p ≤ f.memory
    → IsMemorySize f.memory → IsKept f
IsKept-from_layout f p layout is fits size =
    let lines = lines_shown f p layout in
    record {
      sound = record { is_map = rw lines is; fits = rw lines fits; memory_size = size };
      without_gaps = rw layout.statements_are (sym (laid_out-entries 0 0 p));
      to_the_end = rw (layout.statements_are, layout.pool_is) (length-texts p ∙ sym (lengths-entries 0 p));
    }

-- how long the fields are, and that this is little
pub record HasSizes (f : Inside) (p : StoredProgram) : Type 0 where
  pub texts_are : length f.pool.items ≡ texts_length p.lines
  pub count : length f.statements.items ≡ length p.lines
  pub cost_is : cost p.lines ≡ texts_length p.lines + 3 * length p.lines
  pub fits : cost p.lines ≤ p.memory
  pub small : p.memory ≤ 32767

pub HasSizes-from_kept : (f : Inside) (p : StoredProgram) → stored_program f ≡ p → IsKept f → HasSizes f p
HasSizes-from_kept f p shows kept =
    let layout = IsLayout-from_kept f p shows kept in
    record {
      texts_are = ap length layout.pool_is ∙ length-texts p.lines;
      count = length_shown f p shows;
      cost_is = cost-texts p.lines;
      fits = omega (arith, kept.sound.fits, ap (λ q. cost q.lines) shows, memory_shown f p shows);
      small = omega (arith, kept.sound.memory_size.1, memory_shown f p shows);
    }

-- the statement at a place, and where its text is
pub IsEntry-shown : (f : Inside) (p : StoredProgram) → stored_program f ≡ p → IsKept f → (i : ℕ) (s : Statement)
    → i < length p.lines → s ≡ get_or f.statements.items i s → IsEntry p.lines i s
IsEntry-shown f p shows kept i s in_range read =
    let layout = IsLayout-from_kept f p shows kept in
    IsEntry-read p.lines i s in_range (read ∙ ap (λ ss. get_or ss i s) layout.statements_are)

-- ---- the fields after an edit

module _ (f g : Inside) (p : Statements) (layout : IsLayout f p) (i place : ℕ) (here : place ≡ texts_length (take i p))
    (ss : List Statement) (laid : g.statements.items ≡ take i ss ++ laid_out place (drop i ss)) where
  pub IsLayout-remove : (end : ℕ) → i < length p → end ≡ texts_length (take (suc i) p)
      → ss ≡ remove f.statements.items i → g.pool.items ≡ remove_range f.pool.items place end → IsLayout g (remove p i)
  IsLayout-remove end in_range there edit pool = record {
    statements_are =
        laid
        ∙ ap (λ all. take i all ++ laid_out place (drop i all)) (edit ∙ ap (λ all. remove all i) layout.statements_are)
        ∙ entries-remove p i place here in_range;
    pool_is =
        pool ∙ ap (λ all. take place all ++ drop end all) layout.pool_is
        ∙ texts-remove p i place here (suc i) end there;
  }

  module _ (n : ℕ) (t : List ℕ) (s : Statement) (is : s ≡ record { number = n; place = place; length = length t }) where
    pub IsLayout-insert : i ≤ length p → ss ≡ insert f.statements.items i s
        → g.pool.items ≡ splice f.pool.items place place t → IsLayout g (insert p i (n, t))
    IsLayout-insert in_range edit pool = record {
      statements_are =
          laid ∙ ap (λ all. take i all ++ laid_out place (drop i all))
          (edit ∙ ap (λ all. insert all i s) layout.statements_are ∙ ap (insert (entries 0 p) i) is)
          ∙ entries-insert p i place here n place t in_range;
      pool_is =
          pool ∙ ap (λ all. splice all place place t) layout.pool_is ∙ texts-splice p i place here i place here n t;
    }

    pub IsLayout-set : (end : ℕ) → i < length p → end ≡ texts_length (take (suc i) p) → ss ≡ set f.statements.items i s
        → g.pool.items ≡ splice f.pool.items place end t → IsLayout g (set p i (n, t))
    IsLayout-set end in_range there edit pool = record {
      statements_are =
          laid ∙ ap (λ all. take i all ++ laid_out place (drop i all))
          (edit ∙ ap (λ all. set all i s) layout.statements_are ∙ ap (set (entries 0 p) i) is)
          ∙ entries-set p i place here n place t in_range;
      pool_is =
          pool ∙ ap (λ all. splice all place end t) layout.pool_is ∙ texts-splice p i place here (suc i) end there n t
          ∙ ap texts (sym (set_split p i (n, t) in_range));
    }
