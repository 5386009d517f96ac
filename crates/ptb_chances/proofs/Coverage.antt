-- This file proves that plays which wait may be taken out and put in, and that all runs stay accounted for.
-- Main lemma: `puts`.
use Rattle.std.proofs.Common.{◌≡◌, ℕ, List, [], ◌∷◌, ◌++◌, ◌+◌, ◌≤◌, drop, length, refl, ap, sym}
use Rattle.std.proofs.Common.{subst, ◌∙◌, append_assoc, length-append, inl, inr, arith}
use Rattle.std.specs.List.{AllByRecursion}
use Rattle.ptb_numbers.specs.Fractions.{Ratio, plus, Equals}
use Rattle.ptb_text.specs.Statements.{StoredProgram}
use Rattle.ptb_answers.specs.Outcome.{Answers, Outcome}
use Rattle.ptb_answers.specs.declared.rules.Rules.{Rules}
use Rattle.ptb_command.specs.Configuration.{Configuration}
use Rattle.ptb_machine.specs.Play.{Finish, play}
use Rattle.ptb_chances.specs.Chances.{Row, chance_of_all}
use Rattle.ptb_machine.specs.RunTree.{leaves, tree}
use Rattle.ptb_chances.specs.Accounts.{AreAlike, account, chance_in, runs_in, row_of_run}
use Rattle.ptb_chances.specs.StagePlays.{IsStageAt}
use Rattle.ptb_chances.specs.WaitingPlays.{WaitingPlay, Waits, CountsFor, below, Covers, Takes, SamePlace, IsJoined}
use Rattle.ptb_chances.specs.WaitingPlays.{Puts}
use Rattle.ptb_chances.proofs.Accounts.{alike_self, alike_then}
use Rattle.ptb_chances.proofs.JoinedAccounts.{chance_joined, runs_joined}
use Rattle.ptb_chances.proofs.Sums.{plus_comm, plus_assoc, plus_nothing, equals_plus, equals_then, plus_positive}

-- ---- accounts one after the other

pub alike_joined : (ws ws' vs vs' : List Row) → AreAlike ws ws' → AreAlike vs vs' → AreAlike (ws ++ vs) (ws' ++ vs')
alike_joined ws ws' vs vs' a b = record {
  chances = λ r. chance_joined r ws vs ∙ ap (λ (f : Ratio). plus f (chance_in r vs)) (a.chances r)
      ∙ ap (plus (chance_in r ws')) (b.chances r) ∙ sym (chance_joined r ws' vs');
  runs = λ r. runs_joined r ws vs ∙ ap (λ n. n + runs_in r vs) (a.runs r) ∙ ap (λ n. runs_in r ws' + n) (b.runs r)
      ∙ sym (runs_joined r ws' vs');
}

alike_swapped : (ws vs : List Row) → AreAlike (ws ++ vs) (vs ++ ws)
alike_swapped ws vs = record {
  chances = λ r. chance_joined r ws vs ∙ plus_comm (chance_in r ws) (chance_in r vs) ∙ sym (chance_joined r vs ws);
  runs = λ r. let swapped : runs_in r ws + runs_in r vs ≡ runs_in r vs + runs_in r ws = omega arith in
      runs_joined r ws vs ∙ swapped ∙ sym (runs_joined r vs ws);
}

module _ (game : Answers → Outcome Finish (List ℕ)) where
  pub account_joined : (xs ys : List Answers) → account game (xs ++ ys) ≡ account game xs ++ account game ys
  account_joined [] ys = refl
  account_joined (x ∷ xs) ys = ap (λ vs. row_of_run game x ∷ vs) (account_joined xs ys)

  -- ---- runs in another order

  abbrev pub Alike : List Answers → List Answers → Type 0
  Alike xs ys = AreAlike (account game xs) (account game ys)

  pub same_alike : (xs ys : List Answers) → xs ≡ ys → Alike xs ys
  same_alike xs ys e = subst (λ (zs : List Answers). Alike xs zs) e (alike_self (account game xs))

  pub both_alike : (xs xs' ys ys' : List Answers) → Alike xs xs' → Alike ys ys' → Alike (xs ++ ys) (xs' ++ ys')
  both_alike xs xs' ys ys' a b =
      let joined = alike_joined (account game xs) (account game xs') (account game ys) (account game ys') a b in
      let left = subst (λ (vs : List Row). AreAlike vs (account game xs' ++ account game ys'))
      (sym (account_joined xs ys)) joined in
      subst (λ (vs : List Row). AreAlike (account game (xs ++ ys)) vs) (sym (account_joined xs' ys')) left

  pub swapped : (xs ys : List Answers) → Alike (xs ++ ys) (ys ++ xs)
  swapped xs ys =
      let turned = alike_swapped (account game xs) (account game ys) in
      let left = subst (λ (vs : List Row). AreAlike vs (account game ys ++ account game xs))
      (sym (account_joined xs ys)) turned in
      subst (λ (vs : List Row). AreAlike (account game (xs ++ ys)) vs) (sym (account_joined ys xs)) left

  pub then_alike : (xs ys zs : List Answers) → Alike xs ys → Alike ys zs → Alike xs zs
  then_alike xs ys zs a b = alike_then (account game xs) (account game ys) (account game zs) a b

  pub front_turned : (xs ys zs : List Answers) → Alike (xs ++ (ys ++ zs)) (ys ++ (xs ++ zs))
  front_turned xs ys zs =
      then_alike (xs ++ (ys ++ zs)) ((xs ++ ys) ++ zs) (ys ++ (xs ++ zs))
      (same_alike (xs ++ (ys ++ zs)) ((xs ++ ys) ++ zs) (sym (append_assoc xs ys zs)))
      (then_alike ((xs ++ ys) ++ zs) ((ys ++ xs) ++ zs) (ys ++ (xs ++ zs))
      (both_alike (xs ++ ys) (ys ++ xs) zs zs (swapped xs ys) (alike_self (account game zs)))
      (same_alike ((ys ++ xs) ++ zs) (ys ++ (xs ++ zs)) (append_assoc ys xs zs)))

  -- the second and the third of four change places
  pub middle_turned : (us bs cs ds : List Answers) → Alike ((us ++ bs) ++ (cs ++ ds)) ((us ++ cs) ++ (bs ++ ds))
  middle_turned us bs cs ds =
      then_alike ((us ++ bs) ++ (cs ++ ds)) (us ++ (bs ++ (cs ++ ds))) ((us ++ cs) ++ (bs ++ ds))
      (same_alike ((us ++ bs) ++ (cs ++ ds)) (us ++ (bs ++ (cs ++ ds))) (append_assoc us bs (cs ++ ds)))
      (then_alike (us ++ (bs ++ (cs ++ ds))) (us ++ (cs ++ (bs ++ ds))) ((us ++ cs) ++ (bs ++ ds)) (both_alike us us
      (bs ++ (cs ++ ds)) (cs ++ (bs ++ ds)) (alike_self (account game us)) (front_turned bs cs ds))
      (same_alike (us ++ (cs ++ (bs ++ ds))) ((us ++ cs) ++ (bs ++ ds)) (sym (append_assoc us cs (bs ++ ds)))))

-- ---- taking out and putting in

all_append : {A : Type 0} (P : A → Type 0) (xs ys : List A) → AllByRecursion P xs → AllByRecursion P ys
    → AllByRecursion P (xs ++ ys)
all_append P [] ys a b = b
all_append P (x ∷ xs) ys a b = (a.0, all_append P xs ys a.1 b)

module _ (p : StoredProgram) (input : List (List ℕ)) (rules : Rules) (most : ℕ) where
  abbrev game : Answers → Outcome Finish (List ℕ)
  game = play p input rules

  pub covers_alike : (ws : List WaitingPlay) (done now : List Answers) → Alike game done now
      → Covers p input rules most done ws → Covers p input rules most now ws
  covers_alike [] done now a c = alike_then (account game (tree game most)) (account game done) (account game now) c a
  covers_alike (w ∷ ws) done now a c = (
    c.0,
    c.1,
    covers_alike ws (below p input rules most c.0 ++ done) (below p input rules most c.0 ++ now)
        (both_alike game (below p input rules most c.0) (below p input rules most c.0) done now
        (alike_self (account game (below p input rules most c.0))) a) c.2,
  )

  pub below_joined : (qs rs : List Answers)
      → below p input rules most (qs ++ rs) ≡ below p input rules most qs ++ below p input rules most rs
  below_joined [] rs = refl
  below_joined (q ∷ qs) rs = ap (λ zs. leaves game q most ++ zs) (below_joined qs rs)
      ∙ sym (append_assoc (leaves game q most) (below p input rules most qs) (below p input rules most rs))

  abbrev pub CoveredBy : WaitingPlay → List Answers → List WaitingPlay → Type 0
  CoveredBy w done ws = (qs : List Answers) × CountsFor p input rules w qs
      × Covers p input rules most (below p input rules most qs ++ done) ws

  out_of : (prefix suffix : List WaitingPlay) (w : WaitingPlay) (done : List Answers)
      → Covers p input rules most done (prefix ++ w ∷ suffix) → CoveredBy w done (prefix ++ suffix)
  out_of [] suffix w done c = c
  out_of (f ∷ prefix) suffix w done c =
      let first = below p input rules most c.0 in
      let rest : CoveredBy w (first ++ done) (prefix ++ suffix) = out_of prefix suffix w (first ++ done) c.2 in
      let second = below p input rules most rest.0 in (
        rest.0,
        rest.1,
        (
          c.0,
          c.1,
          covers_alike (prefix ++ suffix) (second ++ (first ++ done)) (first ++ (second ++ done))
              (front_turned game second first done) rest.2,
        ),
      )

  into : (prefix suffix : List WaitingPlay) (w : WaitingPlay) (qs done : List Answers) → CountsFor p input rules w qs
      → Covers p input rules most (below p input rules most qs ++ done) (prefix ++ suffix)
      → Covers p input rules most done (prefix ++ w ∷ suffix)
  into [] suffix w qs done s c = (qs, s, c)
  into (f ∷ prefix) suffix w qs done s c =
      let first = below p input rules most c.0 in
      let own = below p input rules most qs in (
        c.0,
        c.1,
        into prefix suffix w qs (first ++ done) s (covers_alike (prefix ++ suffix) (first ++ (own ++ done))
            (own ++ (first ++ done)) (front_turned game first own done) c.2),
      )

  pub taken_out : (old new : List WaitingPlay) (w : WaitingPlay) (done : List Answers) → Takes old w new
      → Covers p input rules most done old → CoveredBy w done new
  taken_out old new w done t c =
      let there : Covers p input rules most done (t.prefix ++ w ∷ t.suffix) =
      subst (λ (ws : List WaitingPlay). Covers p input rules most done ws) t.old_is c in
      let rest = out_of t.prefix t.suffix w done there in (
        rest.0,
        rest.1,
        subst (λ (ws : List WaitingPlay). Covers p input rules most
            (below p input rules most rest.0 ++ done) ws) (sym t.new_is) rest.2,
      )

  pub put_in : (old new : List WaitingPlay) (w : WaitingPlay) (qs done : List Answers) → Takes new w old
      → CountsFor p input rules w qs → Covers p input rules most (below p input rules most qs ++ done) old
      → Covers p input rules most done new
  put_in old new w qs done t s c =
      let there : Covers p input rules most (below p input rules most qs ++ done) (t.prefix ++ t.suffix) = subst
      (λ (ws : List WaitingPlay). Covers p input rules most (below p input rules most qs ++ done) ws) t.new_is c in
      subst (λ (ws : List WaitingPlay). Covers p input rules most done ws) (sym t.old_is)
      (into t.prefix t.suffix w qs done s there)

  -- ---- plays in one state

  module _ (v u : WaitingPlay) (same : SamePlace v u) where
    waits_too : (q : Answers) → Waits p input rules v q → Waits p input rules u q
    waits_too q x = record {
      state = x.state;
      stands = subst (λ (s : List ℕ). IsStageAt p rules u.machine (drop u.taken input) s x.state) same.shown
          (subst (λ (n : ℕ). IsStageAt p rules u.machine (drop n input) v.shown x.state) same.taken
          (subst (λ (m : Configuration). IsStageAt p rules m (drop v.taken input) v.shown x.state) same.machine
          x.stands));
      begun = x.begun;
      answers = x.answers ∙ ap (λ plan. x.begun ++ plan) same.plan;
      reached = x.reached;
      opens = x.opens;
      positive = x.positive;
    }

    all_wait : (qs : List Answers) → AllByRecursion (Waits p input rules v) qs
        → AllByRecursion (Waits p input rules u) qs
    all_wait [] a = tt
    all_wait (q ∷ qs) a = (waits_too q a.0, all_wait qs a.1)

  chances_joined : (qs rs : List Answers)
      → chance_of_all game (qs ++ rs) ≡ plus (chance_of_all game qs) (chance_of_all game rs)
  chances_joined [] rs =
      sym (plus_comm (chance_of_all game []) (chance_of_all game rs) ∙ plus_nothing (chance_of_all game rs))
  chances_joined (q ∷ qs) rs = ap (plus (row_of_run game q).chance) (chances_joined qs rs)
      ∙ sym (plus_assoc (row_of_run game q).chance (chance_of_all game qs) (chance_of_all game rs))

  both_stand : (v w u : WaitingPlay) (qs rs : List Answers) → IsJoined v w u → CountsFor p input rules v qs
      → CountsFor p input rules w rs → CountsFor p input rules u (qs ++ rs)
  both_stand v w u qs rs j s t = record {
    all = all_append (Waits p input rules u) qs rs (all_wait v u j.first qs s.all) (all_wait w u j.second rs t.all);
    unspent = sym (ap (λ (m : Configuration). m.spent) (j.first).machine) ∙ s.unspent;
    within = subst (λ (n : ℕ). n ≤ length input) (j.first).taken s.within;
    chance =
        let sums = equals_plus v.chance (chance_of_all game qs) w.chance (chance_of_all game rs) s.chance t.chance in
        let sum = equals_then u.chance (plus v.chance w.chance) (plus (chance_of_all game qs) (chance_of_all game rs))
        (plus_positive v.chance w.chance s.positive t.positive) j.chance sums in
        subst (λ (f : Ratio). Equals u.chance f) (sym (chances_joined qs rs)) sum;
    positive = j.positive;
    runs = omega (arith, j.runs, s.runs, t.runs, length-append qs rs);
    some = omega (arith, j.runs, s.some);
  }

  -- plays are put in, by themselves or together with others
  pub puts : (old new : List WaitingPlay) (w : WaitingPlay) (qs done : List Answers) → Puts old w new
      → CountsFor p input rules w qs → Covers p input rules most (below p input rules most qs ++ done) old
      → Covers p input rules most done new
  puts old new w qs done (inl t) s c = put_in old new w qs done t s c
  puts old new w qs done (inr x) s c =
      let mine = below p input rules most qs in
      let rest = taken_out old x.rest x.other (mine ++ done) x.before c in
      let others = below p input rules most rest.0 in
      let both : Covers p input rules most (below p input rules most (rest.0 ++ qs) ++ done) x.rest =
      subst (λ (zs : List Answers). Covers p input rules most zs x.rest)
      (sym (ap (λ zs. zs ++ done) (below_joined rest.0 qs) ∙ append_assoc others mine done)) rest.2 in
      put_in x.rest new x.both (rest.0 ++ qs) done x.after (both_stand x.other w x.both rest.0 qs x.joined rest.1 s)
      both
