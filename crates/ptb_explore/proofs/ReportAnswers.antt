-- This file proves that a report shows the answers of its run, so that two runs have two different reports.
-- Main lemma: `report_laws`.
use Rattle.std.proofs.Common.{◌≡◌, ℕ, zero, suc, ◌/◌, ◌%◌, ◌^◌, ◌<◌, ◌≤◌, List, [], ◌∷◌, ◌++◌}
use Rattle.std.proofs.Common.{length, true, false, ◌⊎◌, inl, inr, refl, ap, sym, subst, ◌∙◌, arith}
use Rattle.std.proofs.Common.{append_assoc, codes}
use Rattle.std.specs.Prelude.{ℤ, pos, negsuc, Option, Some, None, ◌≤ℤ◌, ◌==◌, nat_lt, Contains}
use Rattle.std.specs.List.{AllByRecursion}
use Rattle.std.specs.Fmt.{decimal, digits, digits_onto, digit_glyph, signed_decimal}
use Rattle.std.proofs.lemmas.Bool.{cases_Bool}
use Rattle.std.proofs.lemmas.Bool.Decides.{nat_tests}
use Rattle.std.proofs.lemmas.Fmt.{signed_decimal_injective}
use Rattle.std.proofs.lemmas.Int.{ints}
use lib.Signed.{mag}
use Rattle.ptb_answers.specs.Outcome.{Answers, Outcome, IsReader, bounds}
use Rattle.ptb_answers.specs.AnswerText.{answers_of, bound_text, item_text, items_in, marked}
use Rattle.ptb_answers.specs.AnswerText.{more_spelling, spelling, unmarked}
use Rattle.ptb_answers.specs.declared.form.Form.{Form}
use Rattle.ptb_answers.specs.declared.form.Form.TheVariants.{One, Two}
use Rattle.ptb_answers.specs.declared.form.Marked.{Marked}
use Rattle.ptb_answers.proofs.PublicLemmas.{whole_is}
use Rattle.ptb_machine.specs.Play.{Finish}
use Rattle.ptb_explore.specs.ReportText.{report_text}
use Rattle.ptb_machine.specs.EndingWords.{field}
use Rattle.ptb_explore.specs.Report.{report, report_of}
use Rattle.ptb_machine.specs.EndingWords.{ending_word}
use Rattle.ptb_explore.specs.Laws.{AreNumbers, ReportLaws}
use Rattle.ptb_machine.specs.RunTree.{IsRun, runs_after}
use Rattle.ptb_explore.proofs.ListingLaws.{listing_laws}
use Rattle.ptb_machine.proofs.PublicLemmas.{length-bounds}
use Rattle.ptb_explore.proofs.NextRuns.{is_answer_is}
use Rattle.ptb_explore.proofs.Shares.{share_laws}
use Rattle.ptb_explore.proofs.Tree.{run_asks}

-- ---- the bytes of a number, and what ends it

-- a minus or a digit
abbrev IsNumberByte : ℕ → Type 0
IsNumberByte b = (b ≡ 45) ⊎ ((48 ≤ b) × (b ≤ 57))

-- a space, a comma or a slash
abbrev IsMark : ℕ → Type 0
IsMark b = (b ≡ 32) ⊎ (b ≡ 44) ⊎ (b ≡ 47)

no_mark : (b c : ℕ) → IsNumberByte b → IsMark c → b ≡ c → ⊥
no_mark b c (inl n) (inl m) e = omega arith
no_mark b c (inl n) (inr (inl m)) e = omega arith
no_mark b c (inl n) (inr (inr m)) e = omega arith
no_mark b c (inr n) (inl m) e = omega (arith, n.0, n.1)
no_mark b c (inr n) (inr (inl m)) e = omega (arith, n.0, n.1)
no_mark b c (inr n) (inr (inr m)) e = omega (arith, n.0, n.1)

abbrev AllNumberBytes : List ℕ → Type 0
AllNumberBytes bs = AllByRecursion IsNumberByte bs

glyph_digit : (n : ℕ) → IsNumberByte (digit_glyph false (n % 10))
glyph_digit n =
    let below : n % 10 < 10 = omega arith in
    let e : nat_lt (n % 10) 10 ≡ true = grind (arith, nat_tests) in
    rw e (inr (omega arith, omega arith))

digits_onto_digits : (k n : ℕ) (acc : List ℕ) → AllNumberBytes acc → AllNumberBytes (digits_onto k 10 false n acc)
digits_onto_digits zero n acc h = h
digits_onto_digits (suc k) n acc h = elim (cases_Bool (n / 10 == 0)) [
  | inl e ↦ rw e (glyph_digit n, h)
  | inr e ↦ rw e (digits_onto_digits k (n / 10) (digit_glyph false (n % 10) ∷ acc) (glyph_digit n, h))
]

decimal_digits : (n : ℕ) → AllNumberBytes (decimal n)
unfolding digits
decimal_digits n = digits_onto_digits 64 n [] tt

number_bytes : (z : ℤ) → AllNumberBytes (signed_decimal z)
number_bytes (pos n) = decimal_digits n
number_bytes (negsuc n) = (inl refl, decimal_digits (suc n))

-- a number ends at the first mark
same_numbers : (xs ys r s : List ℕ) (c d : ℕ) → AllNumberBytes xs → AllNumberBytes ys → IsMark c → IsMark d
    → xs ++ c ∷ r ≡ ys ++ d ∷ s → (xs ≡ ys) × (c ∷ r ≡ d ∷ s)
same_numbers [] [] r s c d h k m n e = (refl, e)
same_numbers [] (y ∷ ys) r s c d h k m n e = let same : y ≡ c = cc in absurd (no_mark y c k.0 m same)
same_numbers (x ∷ xs) [] r s c d h k m n e = let same : x ≡ d = cc in absurd (no_mark x d h.0 n same)
same_numbers (x ∷ xs) (y ∷ ys) r s c d h k m n e =
    let first : x ≡ y = cc in
    let rest : xs ++ c ∷ r ≡ ys ++ d ∷ s = cc in
    let p = same_numbers xs ys r s c d h.1 k.1 m n rest in
    (ap (λ z. z ∷ xs) first ∙ ap (λ l. y ∷ l) p.0, p.1)

-- ---- items

-- what comes after an answer: its bound, then the items after it, then a space
abbrev after_answer : Option ℤ → List Marked → List ℕ → List ℕ
after_answer bound list r = bound_text bound ++ (more_spelling list ++ 32 ∷ r)

record StartsWithMark (bs : List ℕ) : Type 0 where
  mark : ℕ
  rest : List ℕ
  bytes_are : bs ≡ mark ∷ rest
  is_mark : IsMark mark

after_mark : (bound : Option ℤ) (list : List Marked) (r : List ℕ) → StartsWithMark (after_answer bound list r)
after_mark None [] r = record { mark = 32; rest = r; bytes_are = refl; is_mark = inl refl }
after_mark None (m ∷ list) r = record {
  mark = 44;
  rest = (item_text m ++ more_spelling list) ++ 32 ∷ r;
  bytes_are = refl;
  is_mark = inr (inl refl);
}
after_mark (Some n) list r = record {
  mark = 47;
  rest = signed_decimal n ++ (more_spelling list ++ 32 ∷ r);
  bytes_are = refl;
  is_mark = inr (inr refl);
}

-- numbers that a mark follows
numbers_read : (y z : ℤ) (r s : List ℕ) → StartsWithMark r → StartsWithMark s
    → signed_decimal y ++ r ≡ signed_decimal z ++ s → (signed_decimal y ≡ signed_decimal z) × (r ≡ s)
numbers_read y z r s p q e =
    let same : signed_decimal y ++ p.mark ∷ p.rest ≡ signed_decimal z ++ q.mark ∷ q.rest =
    ap (λ t. signed_decimal y ++ t) (sym p.bytes_are) ∙ e ∙ ap (λ t. signed_decimal z ++ t) q.bytes_are in
    let both = same_numbers (signed_decimal y) (signed_decimal z) p.rest q.rest p.mark q.mark (number_bytes y)
    (number_bytes z) p.is_mark q.is_mark same in
    (both.0, p.bytes_are ∙ both.1 ∙ sym q.bytes_are)

-- the bounds have no part in it
abbrev without : List ℕ → List Marked → List ℕ
without r list = more_spelling list ++ 32 ∷ r

after_bounds : (b c : Option ℤ) (l j : List Marked) (r s : List ℕ) → after_answer b l r ≡ after_answer c j s
    → without r l ≡ without s j
after_bounds None None l j r s e = e
after_bounds (Some n) (Some m) l j r s e =
    let rest : signed_decimal n ++ without r l ≡ signed_decimal m ++ without s j = cc in
    (numbers_read n m (without r l) (without s j) (after_mark None l r) (after_mark None j s) rest).1
after_bounds None (Some m) [] j r s e = let x : ◌≡◌ {A = ℕ} 32 47 = cc in absurd (omega (arith, x))
after_bounds None (Some m) (i ∷ l) j r s e = let x : ◌≡◌ {A = ℕ} 44 47 = cc in absurd (omega (arith, x))
after_bounds (Some n) None l [] r s e = let x : ◌≡◌ {A = ℕ} 47 32 = cc in absurd (omega (arith, x))
after_bounds (Some n) None l (i ∷ j) r s e = let x : ◌≡◌ {A = ℕ} 47 44 = cc in absurd (omega (arith, x))

-- an answer of a run is from 1 to 32767
abbrev IsShort : ℤ → Type 0
IsShort k = (pos 1 ≤ℤ k) × (k ≤ℤ pos 32767)

abbrev AllShort : Answers → Type 0
AllShort a = AllByRecursion IsShort a

small : (z : ℤ) → IsShort z → mag z < 2 ^ 63
small (pos n) h = omega (arith, ints, h.1)
small (negsuc n) h = absurd (omega (arith, ints, h.0))

same_short : (y z : ℤ) → IsShort y → IsShort z → signed_decimal y ≡ signed_decimal z → y ≡ z
same_short y z h k e = signed_decimal_injective y z (small y h) (small z k) e

item_after : (m : Marked) (list : List Marked) (r : List ℕ)
    → (item_text m ++ more_spelling list) ++ 32 ∷ r ≡ signed_decimal m.answer ++ after_answer m.bound list r
item_after m list r =
    append_assoc (item_text m) (more_spelling list) (32 ∷ r)
    ∙ append_assoc (signed_decimal m.answer) (bound_text m.bound) (more_spelling list ++ 32 ∷ r)

-- the first answer is read, and the items after it
item_read : (m n : Marked) (l j : List Marked) (r s : List ℕ) → IsShort m.answer → IsShort n.answer
    → (item_text m ++ more_spelling l) ++ 32 ∷ r ≡ (item_text n ++ more_spelling j) ++ 32 ∷ s
    → (m.answer ≡ n.answer) × (without r l ≡ without s j)
item_read m n l j r s h k e =
    let both = numbers_read m.answer n.answer (after_answer m.bound l r) (after_answer n.bound j s)
    (after_mark m.bound l r) (after_mark n.bound j s) (sym (item_after m l r) ∙ e ∙ item_after n j s) in
    (same_short m.answer n.answer h k both.0, after_bounds m.bound n.bound l j r s both.1)

more_read : (l j : List Marked) (r s : List ℕ) → AllShort (answers_of l) → AllShort (answers_of j)
    → without r l ≡ without s j → answers_of l ≡ answers_of j
more_read [] [] r s h k e = refl
more_read [] (n ∷ j) r s h k e = let x : ◌≡◌ {A = ℕ} 32 44 = cc in absurd (omega (arith, x))
more_read (m ∷ l) [] r s h k e = let x : ◌≡◌ {A = ℕ} 44 32 = cc in absurd (omega (arith, x))
more_read (m ∷ l) (n ∷ j) r s h k e =
    let rest : (item_text m ++ more_spelling l) ++ 32 ∷ r ≡ (item_text n ++ more_spelling j) ++ 32 ∷ s = cc in
    let first = item_read m n l j r s h.0 k.0 rest in
    ap (λ z. z ∷ answers_of l) first.0 ∙ ap (λ a. n.answer ∷ a) (more_read l j r s h.1 k.1 first.1)

-- an item does not begin as `none` does
no_item : (m : Marked) (list : List Marked) (t r : List ℕ) → 110 ∷ t ≡ (item_text m ++ more_spelling list) ++ 32 ∷ r → ⊥
no_item m list t r e = by_number (signed_decimal m.answer) (number_bytes m.answer) (e ∙ item_after m list r)
  where
    by_number : (bs : List ℕ) → AllNumberBytes bs → 110 ∷ t ≡ bs ++ after_answer m.bound list r → ⊥
    by_number [] h f =
        let p = after_mark m.bound list r in
        let g : 110 ∷ t ≡ p.mark ∷ p.rest = f ∙ p.bytes_are in
        let first : 110 ≡ p.mark = cc in
        elim p.is_mark [ inl x ↦ omega arith | inr y ↦ elim y [ inl x ↦ omega arith | inr x ↦ omega arith ] ]
    by_number (b ∷ bs) h f =
        let first : 110 ≡ b = cc in
        elim h.0 [ inl x ↦ omega arith | inr x ↦ omega (arith, x.0, x.1) ]

-- a list is read up to the space that follows it
spelling_read : (l j : List Marked) (r s : List ℕ) → AllShort (answers_of l) → AllShort (answers_of j)
    → spelling l ++ 32 ∷ r ≡ spelling j ++ 32 ∷ s → answers_of l ≡ answers_of j
spelling_read [] [] r s h k e = refl
spelling_read [] (n ∷ j) r s h k e = absurd (no_item n j _ s e)
spelling_read (m ∷ l) [] r s h k e = absurd (no_item m l _ r (sym e))
spelling_read (m ∷ l) (n ∷ j) r s h k e =
    let first = item_read m n l j r s h.0 k.0 e in
    ap (λ z. z ∷ answers_of l) first.0 ∙ ap (λ a. n.answer ∷ a) (more_read l j r s h.1 k.1 first.1)

-- ---- reports

answers_of_unmarked : (a : Answers) → answers_of (unmarked a) ≡ a
answers_of_unmarked [] = refl
answers_of_unmarked (k ∷ a) = ap (λ l. k ∷ l) (answers_of_unmarked a)

answers_of_marked : (a : Answers) (bs : List ℤ) → length a ≡ length bs → answers_of (marked a bs) ≡ a
answers_of_marked [] [] l = refl
answers_of_marked [] (n ∷ bs) l = absurd (omega arith)
answers_of_marked (k ∷ a) [] l = absurd (omega arith)
answers_of_marked (k ∷ a) (n ∷ bs) l = ap (λ r. k ∷ r) (answers_of_marked a bs (omega arith))

answers_of_items : (form : Form) (a : Answers) (bs : List ℤ) → length a ≡ length bs
    → answers_of (items_in form a bs) ≡ a
answers_of_items One a bs l = answers_of_unmarked a
answers_of_items Two a bs l = answers_of_marked a bs l

regroup : (s w x y n t : List ℕ) → (((((s ++ w) ++ x) ++ y) ++ n) ++ t) ++ n ≡ s ++ (w ++ (x ++ (y ++ (n ++ (t ++ n)))))
regroup s w x y n t = simp append_assoc

-- what comes after the answers of a report, and the space after them
abbrev after_answers : List ℕ → ℕ → List ℕ → List ℕ
after_answers word steps shown =
    word ++ (field (decimal steps) ++ (field (decimal (length shown)) ++ (codes "\n" ++ (shown ++ codes "\n"))))

report_bytes : (items : List Marked) (word : List ℕ) (steps : ℕ) (shown : List ℕ)
    → report_text items word steps shown ≡ codes "RUN " ++ (spelling items ++ 32 ∷ after_answers word steps shown)
report_bytes items word steps shown = ap (λ t. codes "RUN " ++ t)
    (regroup (spelling items) (field word) (field (decimal steps)) (field (decimal (length shown))) (codes "\n") shown)

module _ (play : Answers → Outcome Finish (List ℕ)) (most : ℕ) (reads : IsReader play most) where
  -- the answers of a run are at least 1
  short_from : (q a : Answers) → IsRun play (q ++ a) → AreNumbers a → AllShort a
  short_from q [] r h = tt
  short_from q (k ∷ a) r h =
      let p = run_asks play most reads q a k r in
      let bounded = is_answer_is p.0 k p.3 in (
        (bounded.0, h.0),
        short_from (q ++ k ∷ []) a
            (subst (λ (t : Answers). IsRun play t) (sym (append_assoc q (k ∷ []) a)) r) h.1,
      )

  pub reports_differ : (form : Form) (a b : Answers) → IsRun play a → IsRun play b → AreNumbers a → AreNumbers b
      → report form play a ≡ report form play b → a ≡ b
  reports_differ form a b r s h k e =
      let x = whole_is (play a) r in
      let y = whole_is (play b) s in
      let i = items_in form a (bounds play a) in
      let j = items_in form b (bounds play b) in
      let ia : answers_of i ≡ a = answers_of_items form a (bounds play a) (sym (length-bounds play [] a)) in
      let jb : answers_of j ≡ b = answers_of_items form b (bounds play b) (sym (length-bounds play [] b)) in
      let left = ap (report_of i) x.1 ∙ report_bytes i (ending_word x.0.ending) x.0.steps x.0.shown in
      let right = ap (report_of j) y.1 ∙ report_bytes j (ending_word y.0.ending) y.0.steps y.0.shown in
      let rest = after_run _ _ (sym left ∙ e ∙ right) in
      let short_a = subst AllShort (sym ia) (short_from [] a r h) in
      let short_b = subst AllShort (sym jb) (short_from [] b s k) in
      sym ia ∙ spelling_read i j _ _ short_a short_b rest ∙ jb
    where
      after_run : (t u : List ℕ) → codes "RUN " ++ t ≡ codes "RUN " ++ u → t ≡ u
      after_run t u g = cc

  pub report_laws : ReportLaws play most
  report_laws = record {
    differ = reports_differ;
    apart = λ form u v a b f g less c d h k e.
        let laws = share_laws play most reads in
        let tree = listing_laws play most reads in
        let ra = ((tree.runs u f a).0 c).0 in
        let rb = ((tree.runs v g b).0 d).0 in
        let same : a ≡ b = reports_differ form a b ra rb h k e in
        laws.apart u v b f g less (subst (λ (t : Answers). Contains (runs_after play most u f) t) same c) d;
  }
