-- This file proves how the answers that a whole may take are spent by its parts.
--     Budget f most left       f takes at most so many answers, and with each result x it leaves enough for `left x`
--                              more
--     then_budget, map_budget, ..      budgets of what is made of parts
-- Main lemma: `then_budget`.
use Rattle.std.proofs.Common.{◌≡◌, ℕ, ◌+◌, ◌≤◌, length, refl, ap, sym, ◌∙◌, subst, arith}
use Rattle.ptb_answers.specs.Outcome.{Answers, Outcome, Done, go_on, map_outcome, IsReader}
use Rattle.ptb_answers.proofs.PublicLemmas.{Came, Gave, Asked, Refused, came, done_reader, then_reader_by}
use Rattle.ptb_answers.proofs.PublicLemmas.{map_reader, wider_reader}

pub record Budget {A W : Type 0} (f : Answers → Outcome A W) (most : ℕ) (left : A → ℕ) : Type 0 where
  pub reads : IsReader f most
  pub pays : (q rest : Answers) (x : A) → f q ≡ Done x rest → length q + left x ≤ most + length rest

-- the same of what gives the same
pub same_budget : {A W : Type 0} (f g : Answers → Outcome A W) (most : ℕ) (left : A → ℕ) → ((a : Answers) → g a ≡ f a)
    → Budget g most left → Budget f most left
same_budget f g most left same b = subst (λ (h : Answers → Outcome _ _). Budget h most left) (λ i a. same a i) b

-- more may be spent, and less must be left
pub wider_budget : {A W : Type 0} (f : Answers → Outcome A W) (most more : ℕ) (left less : A → ℕ) → most ≤ more
    → ((x : A) → less x ≤ left x) → Budget f most left → Budget f more less
wider_budget f most more left less m l b = record {
  reads = wider_reader f most more m b.reads;
  pays = λ q rest x e. omega (arith, b.pays q rest x e, l x);
}

-- what isn't spent is left
pub with_more : {A W : Type 0} (f : Answers → Outcome A W) (most k : ℕ) (left : A → ℕ) → Budget f most left
    → Budget f (most + k) (λ x. left x + k)
with_more f most k left b = record {
  reads = wider_reader f most (most + k) (omega arith) b.reads;
  pays = λ q rest x e. omega (arith, b.pays q rest x e);
}

pub reader_budget : {A W : Type 0} (f : Answers → Outcome A W) (most k : ℕ) → IsReader f most
    → Budget f (most + k) (λ _. k)
reader_budget f most k r = record {
  reads = wider_reader f most (most + k) (omega arith) r;
  pays = λ q rest x e. omega (arith, r.spends q rest x e);
}

pub done_budget : {A W : Type 0} (x : A) (most : ℕ) (left : A → ℕ) → left x ≤ most
    → Budget {W = W} (λ a. Done x a) most left
done_budget x most left h = record {
  reads = done_reader x most;
  pays = λ q rest y e. let same : x ≡ y = cc in let r : q ≡ rest = cc in
      omega (arith, ap left same, ap (λ (a : Answers). length a) r);
}

pub then_budget : {A B W : Type 0} (m : Answers → Outcome A W) (f : A → Answers → Outcome B W) (most : ℕ) (cost : A → ℕ)
    (left : B → ℕ)
    → Budget m most cost → ((x : A) → Budget (f x) (cost x) left) → Budget (λ a. go_on (m a) f) most left
then_budget m f most cost left b each = record {
  reads = then_reader_by m f most most cost b.reads (omega arith) b.pays (λ x. (each x).reads);
  pays = λ q rest y e. by_cases q rest y e (came (m q));
}
  where
    by_cases : (q rest : Answers) (y : _) → go_on (m q) f ≡ Done y rest → Came (m q)
        → length q + left y ≤ most + length rest
    by_cases q rest y e (Gave x s h) =
        let then_gave : f x s ≡ Done y rest = sym (ap (λ v. go_on v f) h) ∙ e in
        omega (arith, b.pays q s x h, (each x).pays s rest y then_gave)
    by_cases q rest y e (Asked n w h) = let k = ap (λ v. go_on v f) h in absurd cc
    by_cases q rest y e (Refused n w h) = let k = ap (λ v. go_on v f) h in absurd cc

pub map_budget : {A B V W : Type 0} (f : A → B) (g : V → W) (m : Answers → Outcome A V) (most : ℕ) (left : B → ℕ)
    → Budget m most (λ x. left (f x)) → Budget (λ a. map_outcome f g (m a)) most left
map_budget f g m most left b = record {
  reads = map_reader (map_outcome f g) f g (λ x rest. refl) (λ n v. refl) (λ n v. refl) m most b.reads;
  pays = λ q rest y e. by_cases q rest y e (came (m q));
}
  where
    by_cases : (q rest : Answers) (y : _) → map_outcome f g (m q) ≡ Done y rest → Came (m q)
        → length q + left y ≤ most + length rest
    by_cases q rest y e (Gave x s h) =
        let k : Done (f x) s ≡ Done y rest = sym (ap (map_outcome f g) h) ∙ e in
        let same : f x ≡ y = cc in
        let r : s ≡ rest = cc in
        omega (arith, b.pays q s x h, ap left same, ap (λ (a : Answers). length a) r)
    by_cases q rest y e (Asked n w h) = let k = ap (map_outcome f g) h in absurd cc
    by_cases q rest y e (Refused n w h) = let k = ap (map_outcome f g) h in absurd cc
