-- This file proves that statements which cut a pool without gaps are those of the program that they show, and what an
-- edit leaves of them.
-- Main lemmas: `entries-insert` and `entries-remove`.
use Rattle.std.proofs.Common.{◌≡◌, ℕ, zero, suc, ◌+◌, ◌*◌, ◌-◌, ◌<◌, ◌≤◌, List, [], ◌∷◌, ◌++◌}
use Rattle.std.proofs.Common.{length, map, take, drop, get_or, set, flat_map, slice_range, refl}
use Rattle.std.proofs.Common.{sym, ap, ◌∙◌, arith, append-nil, length-append, length-drop}
use Rattle.std.proofs.Common.{length-take}
use Rattle.std.specs.List.{insert, remove, splice}
use Rattle.std.proofs.lemmas.List.{drop-drop, drop_all, drop_at, take_at, take_all, take-set}
use Rattle.std.proofs.lemmas.List.{drop-set, take-append-drop, set_split, with_items_is}
use Rattle.std.specs.Global.{Vec}
use Rattle.std.specs.Vec.{with_items}
use Rattle.std.proofs.lemmas.List.Concat.{length-flat_map}
use Rattle.std.proofs.lemmas.List.Folds.{drop_split}
use Rattle.std.proofs.lemmas.List.Sums.{sum_by-cons, sum_by-take-drop, sum_by-take-le}
use Rattle.std.proofs.lemmas.Grind.{flat_map-append}
use Rattle.std.proofs.Math.Seq.{take-append_seam, drop-append_seam}
use Rattle.ptb_text.specs.declared.program.Statement.{Statement}
use Rattle.ptb_text.specs.Statements.{Statements, cost}
use Rattle.ptb_text.specs.NumberOrder.{statement_number}
use Rattle.ptb_text.specs.Program.{text_in, lengths, texts_length, laid_out}

-- a statement as a line shows it
abbrev pub shown : List ℕ → Statement → ℕ × List ℕ
shown pool s = (s.number, text_in pool s)

-- the statements of a program whose texts are directly one after the other, from a place on
abbrev pub entries : ℕ → Statements → List Statement
entries place [] = []
entries place (s ∷ p) = record { number = s.0; place = place; length = length s.1 } ∷ entries (place + length s.1) p

-- and the pool that they cut
abbrev pub texts : Statements → List ℕ
texts p = flat_map (λ s. s.1) p

-- ---- lengths, one after the other

lengths-cons : (s : Statement) (ss : List Statement) → lengths (s ∷ ss) ≡ s.length + lengths ss
lengths-cons s ss = sum_by-cons (λ t. t.length) s ss

texts_length-cons : (s : ℕ × List ℕ) (p : Statements) → texts_length (s ∷ p) ≡ length s.1 + texts_length p
texts_length-cons s p = sum_by-cons (λ t. length t.1) s p

-- ---- from the fields to the program

length-text : (pool : List ℕ) (s : Statement) → s.place + s.length ≤ length pool → length (text_in pool s) ≡ s.length
length-text pool s within =
    let following = length-drop s.place pool in
    let size : s.place + s.length - s.place ≡ s.length = omega arith in
    ap (λ k. length (take k (drop s.place pool))) size ∙ length-take s.length (drop s.place pool)
    ∙ omega (arith, following)

module _ (pool : List ℕ) where
  pub entries-from_laid_out : (place : ℕ) (ss : List Statement) → ss ≡ laid_out place ss
      → place + lengths ss ≤ length pool → ss ≡ entries place (map (shown pool) ss)
  entries-from_laid_out place [] same within = refl
  entries-from_laid_out place (s ∷ ss) same within =
      let here : s.place ≡ place = ap (λ l. (get_or l 0 s).place) same in
      let following : ss ≡ laid_out (place + s.length) ss = ap (drop 1) same in
      let sum = lengths-cons s ss in
      let size : length (text_in pool s) ≡ s.length = length-text pool s (omega (arith, here)) in
      let others = entries-from_laid_out (place + s.length) ss following (omega arith) in
      let first : s ≡ record { number = s.number; place = place; length = length (text_in pool s) } =
      λ i. record { number = s.number; place = here i; length = sym size i } in
      λ i. first i ∷ (others ∙ ap (λ k. entries (place + k) (map (shown pool) ss)) (sym size)) i

  pub texts-from_laid_out : (place : ℕ) (ss : List Statement) → ss ≡ laid_out place ss
      → place + lengths ss ≡ length pool → drop place pool ≡ texts (map (shown pool) ss)
  texts-from_laid_out place [] same end = drop_all place pool (omega (arith, end))
  texts-from_laid_out place (s ∷ ss) same end =
      let here : s.place ≡ place = ap (λ l. (get_or l 0 s).place) same in
      let following : ss ≡ laid_out (place + s.length) ss = ap (drop 1) same in
      let sum = lengths-cons s ss in
      let others = texts-from_laid_out (place + s.length) ss following (omega (arith, end)) in
      let parts = drop_split pool place (place + s.length) (omega arith) in
      parts ∙ ap (λ r. slice_range pool place (place + s.length) ++ r) others
      ∙ ap (λ k. slice_range pool k (k + s.length) ++ texts (map (shown pool) ss)) (sym here)

  -- ---- and back

  pub shown-entries : (place : ℕ) (p : Statements) → drop place pool ≡ texts p → map (shown pool) (entries place p) ≡ p
  shown-entries place [] rest = refl
  shown-entries place (s ∷ p) rest =
      let size : place + length s.1 - place ≡ length s.1 = omega arith in
      let text : slice_range pool place (place + length s.1) ≡ s.1 =
      ap (λ k. take k (drop place pool)) size ∙ ap (take (length s.1)) rest ∙ take-append_seam s.1 (texts p) in
      let following : drop (place + length s.1) pool ≡ texts p = sym (drop-drop (length s.1) place pool)
      ∙ ap (drop (length s.1)) rest ∙ drop-append_seam s.1 (texts p) in
      λ i. (s.0, text i) ∷ shown-entries (place + length s.1) p following i

pub laid_out-entries : (b a : ℕ) (p : Statements) → laid_out b (entries a p) ≡ entries b p
laid_out-entries b a [] = refl
laid_out-entries b a (s ∷ p) =
    ap (λ ss. record { number = s.0; place = b; length = length s.1 } ∷ ss)
    (laid_out-entries (b + length s.1) (a + length s.1) p)

pub lengths-entries : (a : ℕ) (p : Statements) → lengths (entries a p) ≡ texts_length p
lengths-entries a [] = refl
lengths-entries a (s ∷ p) =
    lengths-cons (record { number = s.0; place = a; length = length s.1 }) (entries (a + length s.1) p)
    ∙ ap (λ n. length s.1 + n) (lengths-entries (a + length s.1) p) ∙ sym (texts_length-cons s p)

pub length-entries : (a : ℕ) (p : Statements) → length (entries a p) ≡ length p
length-entries a [] = refl
length-entries a (s ∷ p) = ap suc (length-entries (a + length s.1) p)

pub length-texts : (p : Statements) → length (texts p) ≡ texts_length p
length-texts p = length-flat_map (λ s. s.1) p

pub cost-texts : (p : Statements) → cost p ≡ texts_length p + 3 * length p
cost-texts [] = refl
cost-texts (s ∷ p) =
    let one : cost (s ∷ p) ≡ (length s.1 + 3) + cost p = sum_by-cons (λ t. length t.1 + 3) s p in
    omega (arith, cost-texts p, texts_length-cons s p)

-- ---- parts of them

pub take-entries : (a i : ℕ) (p : Statements) → take i (entries a p) ≡ entries a (take i p)
take-entries a zero p = refl
take-entries a (suc i) [] = refl
take-entries a (suc i) (s ∷ p) =
    ap (λ ss. record { number = s.0; place = a; length = length s.1 } ∷ ss) (take-entries (a + length s.1) i p)

pub laid_out-drop : (b a i : ℕ) (p : Statements) → laid_out b (drop i (entries a p)) ≡ entries b (drop i p)
laid_out-drop b a zero p = laid_out-entries b a p
laid_out-drop b a (suc i) [] = refl
laid_out-drop b a (suc i) (s ∷ p) = laid_out-drop b (a + length s.1) i p

pub entries-append : (a : ℕ) (p q : Statements) → entries a (p ++ q) ≡ entries a p ++ entries (a + texts_length p) q
entries-append a [] q = ap (λ k. entries k q) (omega arith)
entries-append a (s ∷ p) q =
    let place : (a + length s.1) + texts_length p ≡ a + texts_length (s ∷ p) = omega (arith, texts_length-cons s p) in
    ap (λ ss. record { number = s.0; place = a; length = length s.1 } ∷ ss)
    (entries-append (a + length s.1) p q ∙ ap (λ k. entries (a + length s.1) p ++ entries k q) place)

-- the statement at a place, and where its text is
pub record IsEntry (p : Statements) (i : ℕ) (s : Statement) : Type 0 where
  pub number_is : s.number ≡ statement_number p i
  pub place_is : s.place ≡ texts_length (take i p)
  pub length_is : s.length ≡ length (get_or p i (0, [])).1
  pub end_is : s.place + s.length ≡ texts_length (take (suc i) p)
  pub within : s.place + s.length ≤ texts_length p

IsEntry-at : (a : ℕ) (p : Statements) (i : ℕ) (s : Statement) → i < length p → s ≡ get_or (entries a p) i s
    → (s.number ≡ statement_number p i) × (s.place ≡ a + texts_length (take i p))
    × (s.length ≡ length (get_or p i (0, [])).1) × (s.place + s.length ≡ a + texts_length (take (suc i) p))
IsEntry-at a [] i s in_range read = absurd (omega arith)
IsEntry-at a (t ∷ p) zero s in_range read =
    let place : s.place ≡ a = ap (λ e. e.place) read in
    let size : s.length ≡ length t.1 = ap (λ e. e.length) read in
    let one = texts_length-cons t [] in
    (ap (λ e. e.number) read, omega (arith, place), size, omega (arith, place, size, one))
IsEntry-at a (t ∷ p) (suc i) s in_range read =
    let others = IsEntry-at (a + length t.1) p i s (omega arith) read in (
      others.0,
      omega (arith, others.1, texts_length-cons t (take i p)),
      others.2,
      omega (arith, others.3, texts_length-cons t (take (suc i) p)),
    )

pub IsEntry-read : (p : Statements) (i : ℕ) (s : Statement) → i < length p → s ≡ get_or (entries 0 p) i s
    → IsEntry p i s
IsEntry-read p i s in_range read =
    let facts = IsEntry-at 0 p i s in_range read in
    let whole = sum_by-take-drop (λ t. length t.1) p (suc i) in
    record {
      number_is = facts.0;
      place_is = omega (arith, facts.1);
      length_is = facts.2;
      end_is = omega (arith, facts.3);
      within = omega (arith, facts.3, whole);
    }

-- ---- an edit: the statements before a place stay, and those from there on are laid out again

module _ (p : Statements) (i place : ℕ) (here : place ≡ texts_length (take i p)) where
  front_and : (q : Statements) → take i (entries 0 p) ++ entries place q ≡ entries 0 (take i p ++ q)
  front_and q =
      let end : place ≡ 0 + texts_length (take i p) = omega (arith, here) in
      ap (λ ss. ss ++ entries place q) (take-entries 0 i p) ∙ ap (λ k. entries 0 (take i p) ++ entries k q) end
      ∙ sym (entries-append 0 (take i p) q)

  pub entries-insert : (n b : ℕ) (t : List ℕ) → i ≤ length p →
      (let ss = insert (entries 0 p) i (record { number = n; place = b; length = length t }) in
      take i ss ++ laid_out place (drop i ss)) ≡ entries 0 (insert p i (n, t))
  entries-insert n b t in_range =
      let all = entries 0 p in
      let s : Statement = record { number = n; place = b; length = length t } in
      let count : length (take i all) ≡ i = length-take i all ∙ omega (arith, length-entries 0 p) in
      let front : take i (insert all i s) ≡ take i all = take_at (take i all) (s ∷ drop i all) i count in
      let back : drop i (insert all i s) ≡ s ∷ drop i all = drop_at (take i all) (s ∷ drop i all) i count in
      let laid : laid_out place (s ∷ drop i all) ≡ entries place ((n, t) ∷ drop i p) = ap (λ ss. record {
        number = n;
        place = place;
        length = length t;
      } ∷ ss) (laid_out-drop (place + length t) 0 i p) in
      ap (λ r. r ++ laid_out place (drop i (insert all i s))) front ∙ ap (λ r. take i all ++ laid_out place r) back
      ∙ ap (λ r. take i all ++ r) laid ∙ front_and ((n, t) ∷ drop i p)

  pub entries-set : (n b : ℕ) (t : List ℕ) → i < length p →
      (let ss = set (entries 0 p) i (record { number = n; place = b; length = length t }) in
      take i ss ++ laid_out place (drop i ss)) ≡ entries 0 (set p i (n, t))
  entries-set n b t in_range =
      let all = entries 0 p in
      let s : Statement = record { number = n; place = b; length = length t } in
      let front : take i (set all i s) ≡ take i all = take-set all i s in
      let next : i + 1 ≡ suc i = omega arith in
      let back : drop i (set all i s) ≡ s ∷ drop (suc i) all = drop-set all i s (omega (arith, length-entries 0 p))
      ∙ ap (λ k. s ∷ drop k all) next in
      let laid : laid_out place (s ∷ drop (suc i) all) ≡ entries place ((n, t) ∷ drop (suc i) p) =
      ap (λ ss. record { number = n; place = place; length = length t } ∷ ss)
      (laid_out-drop (place + length t) 0 (suc i) p) in
      ap (λ r. r ++ laid_out place (drop i (set all i s))) front ∙ ap (λ r. take i all ++ laid_out place r) back
      ∙ ap (λ r. take i all ++ r) laid
      ∙ front_and ((n, t) ∷ drop (suc i) p) ∙ ap (entries 0) (sym (set_split p i (n, t) in_range))

  pub entries-remove : i < length p →
      (let ss = remove (entries 0 p) i in take i ss ++ laid_out place (drop i ss)) ≡ entries 0 (remove p i)
  entries-remove in_range =
      let all = entries 0 p in
      let count : length (take i all) ≡ i = length-take i all ∙ omega (arith, length-entries 0 p) in
      let front : take i (remove all i) ≡ take i all = take_at (take i all) (drop (suc i) all) i count in
      let back : drop i (remove all i) ≡ drop (suc i) all = drop_at (take i all) (drop (suc i) all) i count in
      ap (λ r. r ++ laid_out place (drop i (remove all i))) front ∙ ap (λ r. take i all ++ laid_out place r) back
      ∙ ap (λ r. take i all ++ r) (laid_out-drop place 0 (suc i) p) ∙ front_and (drop (suc i) p)

  -- ---- and the pool: bytes are cut out between the places of two statements, and a text is put in

  texts-parts : (j : ℕ) → texts p ≡ texts (take j p) ++ texts (drop j p)
  texts-parts j = ap texts (sym (take-append-drop j p)) ∙ flat_map-append (λ s. s.1) (take j p) (drop j p)

  pool-front : take place (texts p) ≡ texts (take i p)
  pool-front =
      ap (take place) (texts-parts i)
      ∙ take_at (texts (take i p)) (texts (drop i p)) place (length-texts (take i p) ∙ sym here)

  module _ (j end : ℕ) (there : end ≡ texts_length (take j p)) where
    pool-back : drop end (texts p) ≡ texts (drop j p)
    pool-back =
        ap (drop end) (texts-parts j)
        ∙ drop_at (texts (take j p)) (texts (drop j p)) end (length-texts (take j p) ∙ sym there)

    pub texts-splice : (n : ℕ) (t : List ℕ) → splice (texts p) place end t ≡ texts (take i p ++ (n, t) ∷ drop j p)
    texts-splice n t =
        ap (λ r. r ++ (t ++ drop end (texts p))) pool-front ∙ ap (λ r. texts (take i p) ++ (t ++ r)) pool-back
        ∙ sym (flat_map-append (λ s. s.1) (take i p) ((n, t) ∷ drop j p))

    pub texts-remove : take place (texts p) ++ drop end (texts p) ≡ texts (take i p ++ drop j p)
    texts-remove =
        ap (λ r. r ++ drop end (texts p)) pool-front ∙ ap (λ r. texts (take i p) ++ r) pool-back
        ∙ sym (flat_map-append (λ s. s.1) (take i p) (drop j p))

-- ---- laying out, one statement after the other

abbrev moved : ℕ → Statement → Statement
moved place s = record { number = s.number; place = place; length = s.length }

pub next_moved : (start place : ℕ) (ss : List Statement) (k : ℕ) (d : Statement) → k < length ss
    → place ≡ start + lengths (take k ss)
    → (let all = laid_out start (take k ss) ++ drop k ss in
    set all k (moved place (get_or all k d))) ≡ laid_out start (take (k + 1) ss) ++ drop (k + 1) ss
next_moved start place [] k d in_range here = absurd (omega arith)
next_moved start place (s ∷ ss) zero d in_range here =
    let same : place ≡ start = omega (arith, here) in
    ap (λ n. moved n s ∷ ss) same
next_moved start place (s ∷ ss) (suc k) d in_range here =
    let next : suc k + 1 ≡ suc (k + 1) = omega arith in
    let there : place ≡ (start + s.length) + lengths (take k ss) = omega (arith, here, lengths-cons s (take k ss)) in
    rw next (ap (λ rest. moved start s ∷ rest) (next_moved (start + s.length) place ss k d (omega arith) there))

pub next_length : (start : ℕ) (ss : List Statement) (k : ℕ) (d : Statement) → k < length ss
    → lengths (take k ss) + (get_or (laid_out start (take k ss) ++ drop k ss) k d).length ≡ lengths (take (k + 1) ss)
next_length start [] k d in_range = absurd (omega arith)
next_length start (s ∷ ss) zero d in_range = omega (arith, lengths-cons s [])
next_length start (s ∷ ss) (suc k) d in_range =
    let next : suc k + 1 ≡ suc (k + 1) = omega arith in
    let others = next_length (start + s.length) ss k d (omega arith) in
    rw next (omega (arith, others, lengths-cons s (take k ss), lengths-cons s (take (k + 1) ss)))

-- a part that was laid out, in the list that it is a part of
pub part_laid : (ss part : List Statement) (i start : ℕ) → part ≡ laid_out start (take (length ss - i) (drop i ss))
    → take i ss ++ (part ++ drop (length ss - i) (drop i ss)) ≡ take i ss ++ laid_out start (drop i ss)
part_laid ss part i start is =
    let size = length-drop i ss in
    let whole : take (length ss - i) (drop i ss) ≡ drop i ss =
    take_all (length ss - i) (drop i ss) (omega (arith, size)) in
    let none : drop (length ss - i) (drop i ss) ≡ [] = drop_all (length ss - i) (drop i ss) (omega (arith, size)) in
    ap (λ r. take i ss ++ r) (ap (λ r. part ++ r) none ∙ append-nil part ∙ is ∙ ap (laid_out start) whole)

length-laid_out : (start : ℕ) (ss : List Statement) → length (laid_out start ss) ≡ length ss
length-laid_out start [] = refl
length-laid_out start (s ∷ ss) = ap suc (length-laid_out (start + s.length) ss)

pub laid_items : (v : Vec Statement) (ss part : List Statement) (i start : ℕ) → ss ≡ v.items → length ss ≡ v.len
    → part ≡ laid_out start (take (length ss - i) (drop i ss))
    → (with_items v (take i ss ++ (part ++ drop (length ss - i) (drop i ss)))).items
    ≡ take i v.items ++ laid_out start (drop i v.items)
laid_items v ss part i start same count is =
    let laid = part_laid ss part i start is in
    let size = length-append (take i ss) (laid_out start (drop i ss)) in
    let whole : length (take i ss ++ laid_out start (drop i ss)) ≡ length ss =
    omega (arith, size, length-laid_out start (drop i ss), length-drop i ss, length-take i ss) in
    with_items_is v _ (ap length laid ∙ whole ∙ count) ∙ laid
    ∙ ap (λ all. take i all ++ laid_out start (drop i all)) same

-- a part of the statements is no longer than all of them
pub lengths-part : (ss : List Statement) (i k : ℕ) → lengths (take k (drop i ss)) ≤ lengths ss
lengths-part ss i k = omega (arith, sum_by-take-le (λ s. s.length) (drop i ss) k, sum_by-take-drop (λ s. s.length) ss i)
