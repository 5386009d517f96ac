-- This file proves what storing a text or deleting a statement leaves in the fields of a program, by what each step
-- of the work left.
-- Main lemmas: `insert_enters` and `replace_enters`.
use Rattle.std.proofs.Common.{◌≡◌, ◌∙◌, ℕ, ◌+◌, ◌-◌, ◌<◌, ◌≤◌, true, List, ◌++◌, length, take, drop}
use Rattle.std.proofs.Common.{get_or, set, Ok, Err, refl, sym, ap, subst, arith}
use Rattle.std.specs.List.{insert, splice}
use Rattle.std.specs.Global.{Vec}
use Rattle.std.specs.Vec.{with_item, with_items}
use Rattle.ptb_text.specs.declared.fault.LoadFault.TheVariants.{Full, Memory}
use Rattle.ptb_text.specs.declared.program.Statement.{Statement}
use Rattle.ptb_text.specs.declared.program.Program.TheInside.{Inside}
use Rattle.ptb_text.specs.EnteredLines.{Enters}
use Rattle.ptb_text.specs.NumberOrder.{IsAt, IsGapFor}
use Rattle.ptb_text.specs.Program.{stored_program, laid_out, lengths, texts_length, IsKept}
use Rattle.ptb_text.specs.Statements.{StoredProgram, IsSound, cost, if_room, is_statement, with_text}
use Rattle.ptb_text.proofs.Edits.{cost-with_text_gap, cost-with_text_place, is_program-with_text}
use Rattle.ptb_text.proofs.Edits.{one_cost-le-cost, Enters-ok, Enters-full, Enters-memory}
use Rattle.ptb_text.proofs.Entries.{with_text-gap, with_text-place}
use Rattle.ptb_text.proofs.Pool.{IsEntry, laid_items}
use Rattle.ptb_text.proofs.SoundPrograms.{StatementFacts-from_test}
use Rattle.ptb_text.proofs.StoredLines.{IsEntry-shown, IsLayout, IsLayout-from_kept, IsLayout-insert}
use Rattle.ptb_text.proofs.StoredLines.{IsLayout-set, IsKept-from_layout, lines_shown, memory_shown}
use Rattle.ptb_text.proofs.StoredLines.{is_program_shown, same_shown}

-- fields with the same statements, texts and memory are kept, too
pub IsKept-same : (f g : Inside) → g.statements.items ≡ f.statements.items → g.pool.items ≡ f.pool.items
    → g.memory ≡ f.memory → IsKept f → IsKept g
IsKept-same f g items pool memory kept = record {
  sound = subst IsSound (sym (same_shown f g items pool memory)) kept.sound;
  without_gaps = subst (λ (ss : List Statement). ss ≡ laid_out 0 ss) (sym items) kept.without_gaps;
  to_the_end = ap length pool ∙ kept.to_the_end ∙ ap lengths (sym items);
}

-- a statement's text is short, and a program costs little
pub short_text : (n : ℕ) (t : List ℕ) → is_statement (n, t) ≡ true → length t ≤ 255
short_text n t is = (StatementFacts-from_test n t is).text.short

pub small_cost : (p : StoredProgram) → IsSound p → (k : ℕ) → k ≡ cost p.lines → k ≤ 32767
small_cost p sound k counted = omega (arith, counted, sound.fits, sound.memory_size.1)

-- so what both cost is small
pub grown_cost : (p : StoredProgram) → IsSound p → (k : ℕ) → k ≡ cost p.lines → (n : ℕ) (t : List ℕ)
    → is_statement (n, t) ≡ true → length t + 3 + k ≤ 33025
grown_cost p sound k counted n t is = omega (arith, small_cost p sound k counted, short_text n t is)

-- the fields whose statements were laid out from a place on
abbrev pub laid_from : Vec Statement → List Statement → List Statement → ℕ → Vec ℕ → ℕ → Inside
laid_from v ss part at pool memory = record {
  statements = with_items v (take at ss ++ (part ++ drop (length ss - at) (drop at ss)));
  pool = pool;
  memory = memory;
}

-- the program with the new text has a size, which its memory has room for or has not
module _ (f : Inside) (p : StoredProgram) (shows : stored_program f ≡ p) (n : ℕ) (t : List ℕ) (size : ℕ)
    (costs : cost (with_text p.lines n t) ≡ size) where
  pub store_full : f.memory < size → Enters (if_room p.memory (with_text p.lines n t)) p p (Err Full)
  store_full over = Enters-full (with_text p.lines n t) p (omega (arith, costs, over, memory_shown f p shows))

  store_fits : size ≤ f.memory → cost (with_text p.lines n t) ≤ p.memory
  store_fits room = omega (arith, costs, room, memory_shown f p shows)

  -- it stays where a growth is refused
  pub store_refused : size ≤ f.memory → (g : Inside) → g.statements.items ≡ f.statements.items
      → g.pool.items ≡ f.pool.items
      → g.memory ≡ f.memory → Enters (if_room p.memory (with_text p.lines n t)) p (stored_program g) (Err Memory)
  store_refused room g items pool memory =
      Enters-memory (with_text p.lines n t) p (stored_program g) Memory refl
      (same_shown f g items pool memory ∙ shows) (store_fits room)

module _ (f : Inside) (p : StoredProgram) (shows : stored_program f ≡ p) (kept : IsKept f) where
  -- a new statement goes to its place
  module _ (n at : ℕ) (t : List ℕ) (gap : IsGapFor p.lines n at) (k : ℕ) (counted : k ≡ cost p.lines) where
    pub insert_size : cost (with_text p.lines n t) ≡ k + (length t + 3)
    insert_size = cost-with_text_gap p.lines n at t gap ∙ ap (λ m. m + (length t + 3)) (sym counted)

    module _ (room : k + (length t + 3) ≤ f.memory) where
      module _ (v : Vec Statement) (ss part : List Statement) (pool : Vec ℕ) (place : ℕ)
          (here : place ≡ texts_length (take at p.lines))
          (same : ss ≡ v.items) (count : length ss ≡ v.len)
          (laid : part ≡ laid_out place (take (length ss - at) (drop at ss)))
          (before : List Statement) (edit : v.items ≡ insert before at
          (record { number = n; place = place; length = length t })) (unchanged : before ≡ f.statements.items)
          (bytes : List ℕ) (from end : ℕ) (put : pool.items ≡ splice bytes from end t)
          (same_bytes : bytes ≡ f.pool.items) (begins : from ≡ place) (ends : end ≡ place) where
        insert_layout : IsLayout (laid_from v ss part at pool f.memory) (with_text p.lines n t)
        insert_layout =
            let s : Statement = record { number = n; place = place; length = length t } in
            subst (IsLayout (laid_from v ss part at pool f.memory)) (sym (with_text-gap p.lines n at t gap))
            (IsLayout-insert f (laid_from v ss part at pool f.memory) p.lines (IsLayout-from_kept f p shows kept) at
            place here v.items (laid_items v ss part at place same count laid) n t s refl gap.in_range
            (edit ∙ ap (λ all. insert all at s) unchanged)
            (put ∙ ap (λ all. splice all from end t) same_bytes ∙ ap (λ m. splice f.pool.items m end t) begins
            ∙ ap (λ m. splice f.pool.items place m t) ends))

        pub insert_kept : is_statement (n, t) ≡ true → IsKept (laid_from v ss part at pool f.memory)
        insert_kept is =
            IsKept-from_layout (laid_from v ss part at pool f.memory) (with_text p.lines n t) insert_layout
            (is_program-with_text p.lines n t (is_program_shown f p shows kept) is)
            (omega (arith, insert_size, room)) kept.sound.memory_size

        pub insert_enters : Enters (if_room p.memory (with_text p.lines n t)) p
            (stored_program (laid_from v ss part at pool f.memory)) (Ok tt)
        insert_enters =
            Enters-ok (with_text p.lines n t) p (stored_program (laid_from v ss part at pool f.memory))
            (lines_shown (laid_from v ss part at pool f.memory) (with_text p.lines n t) insert_layout)
            (memory_shown f p shows) (store_fits f p shows n t (k + (length t + 3)) insert_size room)

  -- a text takes the place of another
  module _ (n at : ℕ) (t : List ℕ) (there : IsAt p.lines n at) (k : ℕ) (counted : k ≡ cost p.lines) (old : Statement)
      (read : old ≡ get_or f.statements.items at old) (len : ℕ) (long : len ≡ old.length) where
    replace_entry : IsEntry p.lines at old
    replace_entry = IsEntry-shown f p shows kept at old there.in_range read

    pub replace_size : cost (with_text p.lines n t) ≡ k - len + length t
    replace_size = omega (
      arith,
      replace_entry.length_is,
      one_cost-le-cost p.lines at there.in_range,
      cost-with_text_place p.lines n at t there,
      long,
      counted,
    )

    pub replace_cost : len ≤ k
    replace_cost = omega (arith, replace_entry.length_is, one_cost-le-cost p.lines at there.in_range, long, counted)

    module _ (room : k - len + length t ≤ f.memory) where
      module _ (ss part : List Statement) (pool : Vec ℕ)
          (same : ss ≡ (with_item f.statements at (record { number = n; place = old.place; length = length t })).items)
          (count : length ss
          ≡ (with_item f.statements at (record { number = n; place = old.place; length = length t })).len)
          (laid : part ≡ laid_out old.place (take (length ss - at) (drop at ss)))
          (bytes : List ℕ) (from end : ℕ) (put : pool.items ≡ splice bytes from end t) (same_bytes : bytes
          ≡ f.pool.items) (begins : from ≡ old.place) (ends : end ≡ old.place + old.length) where
        replace_layout : IsLayout
            (laid_from (with_item f.statements at (record { number = n; place = old.place; length = length t })) ss part
            at pool f.memory)
            (with_text p.lines n t)
        replace_layout =
            let s : Statement = record { number = n; place = old.place; length = length t } in
            let g = laid_from (with_item f.statements at s) ss part at pool f.memory in
            subst (IsLayout g) (sym (with_text-place p.lines n at t there))
            (IsLayout-set f g p.lines (IsLayout-from_kept f p shows kept) at old.place replace_entry.place_is
            (set f.statements.items at s) (laid_items (with_item f.statements at s) ss part at old.place same
            count laid) n t s refl end there.in_range
            (ends ∙ replace_entry.end_is) refl
            (put ∙ ap (λ all. splice all from end t) same_bytes ∙ ap (λ m. splice f.pool.items m end t) begins))

        pub replace_kept : is_statement (n, t) ≡ true
            → IsKept (laid_from (with_item f.statements at
            (record { number = n; place = old.place; length = length t })) ss part at pool f.memory)
        replace_kept is =
            IsKept-from_layout _ (with_text p.lines n t) replace_layout
            (is_program-with_text p.lines n t (is_program_shown f p shows kept) is)
            (omega (arith, replace_size, room)) kept.sound.memory_size

        pub replace_enters : Enters (if_room p.memory (with_text p.lines n t)) p
            (stored_program (laid_from (with_item f.statements at
            (record { number = n; place = old.place; length = length t })) ss part at pool f.memory))
            (Ok tt)
        replace_enters =
            Enters-ok (with_text p.lines n t) p _ (lines_shown _ (with_text p.lines n t) replace_layout)
            (memory_shown f p shows) (store_fits f p shows n t (k - len + length t) replace_size room)
