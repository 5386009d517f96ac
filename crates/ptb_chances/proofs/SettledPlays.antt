-- This file proves what becomes of plays in one state: they are over, they continue, or they ask.
-- Main lemmas: `settled_over`, `settled_gone` and `settled_asked`.
use Rattle.std.proofs.Common.{◌≡◌, ℕ, zero, suc, ◌+◌, ◌*◌, ◌<◌, ◌≤◌, Bool, true, false, cond, List}
use Rattle.std.proofs.Common.{[], ◌∷◌, ◌++◌, map, length, take, drop, refl, ap, sym, subst, ◌∙◌}
use Rattle.std.proofs.Common.{append_assoc, append-nil, length-append, arith}
use Rattle.std.specs.Prelude.{ℤ, pos, negsuc, ◌≤ℤ◌, unsigned_abs}
use Rattle.std.specs.List.{flat_map, AllByRecursion, range_with_len}
use Rattle.std.specs.Ordering.{is_eq}
use Rattle.ptb_numbers.specs.Fractions.{Ratio, Equals}
use Rattle.ptb_text.specs.Statements.{StoredProgram}
use Rattle.ptb_text.specs.Lines.{lines}
use Rattle.ptb_answers.specs.Outcome.{Answers, Outcome, Done, Asks, IsReader, is_open, is_answer, bound_of, bounds}
use Rattle.ptb_answers.specs.declared.rules.Rules.{Rules}
use Rattle.ptb_command.specs.declared.ending.Ending.{Ending}
use Rattle.ptb_command.specs.Configuration.{Configuration}
use Rattle.ptb_command.specs.Representation.{Represents}
use Rattle.ptb_command.specs.State.{State, first_state}
use Rattle.ptb_machine.specs.Play.{Finish, play}
use Rattle.ptb_chances.specs.Chances.{Row, RunResult, answer_count, bound_product, chance_of_all}
use Rattle.ptb_chances.specs.Chances.{last_line, result_of, result_order, runs_with}
use Rattle.ptb_machine.specs.Play.{run_from}
use Rattle.ptb_machine.specs.RunTree.{answers_to, leaves, tree}
use Rattle.ptb_machine.proofs.PublicLemmas.{bounds-append, is_answer_from}
use Rattle.ptb_chances.specs.Accounts.{AddsRow, AreSame, IsAccountOf, HasChance, account, chance_in}
use Rattle.ptb_chances.specs.Accounts.{chance_of_rows, runs_of_rows}
use Rattle.ptb_chances.specs.StagePlays.{IsStageAt, Came, IsOver, IsAsked}
use Rattle.ptb_chances.specs.WaitingPlays.{WaitingPlay, Waits, CountsFor, below, Covers, Accounted, Takes}
use Rattle.ptb_chances.specs.WaitingPlays.{Puts, PutsAnswers, after_answer, first_waiting, gone_to}
use Rattle.ptb_chances.proofs.Accounts.{alike_back, alike_self, chance_is, runs_are}
use Rattle.ptb_chances.proofs.Accounts.{same_alike as same_alike_of, same_from_alike, same_then}
use Rattle.ptb_chances.proofs.Coverage.{Alike, account_joined, both_alike, covers_alike}
use Rattle.ptb_chances.proofs.Coverage.{middle_turned, front_turned, put_in, puts, same_alike}
use Rattle.ptb_chances.proofs.Coverage.{swapped, taken_out, then_alike}
use Rattle.ptb_chances.proofs.JoinedAccounts.{same_joined}
use Rattle.ptb_chances.proofs.Leaves.{done_leaves, asked_leaves, all_answers, roomy}
use Rattle.ptb_chances.proofs.PickedAnswers.{above_none, range_split}
use Rattle.ptb_chances.proofs.Sums.{plus_nothing, equals_then}
use Rattle.std.proofs.lemmas.Nat.{mul-le}
use Rattle.std.proofs.lemmas.List.{length-map, take-append-drop}

-- ---- answers that are used up

open_rest : (f : Finish) (rest : Answers) → is_open {W = List ℕ} (Done f rest) ≡ true → rest ≡ []
open_rest f [] h = refl
open_rest f (k ∷ rest) h = absurd cc

module _ (p : StoredProgram) (input : List (List ℕ)) (rules : Rules) (most : ℕ) (w : WaitingPlay) where
  abbrev game : Answers → Outcome Finish (List ℕ)
  game = play p input rules

  abbrev pub Stand : List Answers → Type 0
  Stand qs = CountsFor p input rules w qs

  game_from : (q : Answers) (x : Waits p input rules w q) (later : Answers)
      → game (q ++ later) ≡ run_from p rules x.state (w.plan ++ later)
  game_from q x later = ap (λ a. game (a ++ later)) x.answers ∙ ap game (append_assoc x.begun w.plan later)
      ∙ x.reached (w.plan ++ later)

  game_there : (q : Answers) (x : Waits p input rules w q) → game q ≡ run_from p rules x.state w.plan
  game_there q x = ap game x.answers ∙ x.reached w.plan

  -- ---- they are over

  module _ (n : ℕ) (result : RunResult) (shown : List ℕ) (line : last_line (lines shown) ≡ result.line) where
    abbrev pub EndsSo : Answers → Type 0
    EndsSo q = (f : Finish) × (game q ≡ Done f []) × (result_of (game q) ≡ result)

    ends_so : (q : Answers) (x : Waits p input rules w q) → IsOver p rules x.state (take n w.plan) result.ending shown
        → EndsSo q
    ends_so q x o =
        let split : take n w.plan ++ drop n w.plan ≡ w.plan = take-append-drop n w.plan in
        let outcome : game q ≡ Done o.finish (drop n w.plan) =
        game_there q x ∙ ap (run_from p rules x.state) (sym split) ∙ o.outcome (drop n w.plan) in
        let opens : is_open {W = List ℕ} (Done o.finish (drop n w.plan)) ≡ true =
        subst (λ (v : Outcome Finish (List ℕ)). is_open v ≡ true) outcome x.opens in
        let done : game q ≡ Done o.finish [] =
        outcome ∙ ap (λ rest. Done o.finish rest) (open_rest o.finish (drop n w.plan) opens) in
        let is : ◌≡◌ {A = RunResult} (record { ending = (o.finish).ending; line = last_line (lines (o.finish).shown) })
        result = rw (o.ending_is, o.line_is, line) refl in
        (o.finish, done, ap result_of done ∙ is)

    all_end : (qs : List Answers) → AllByRecursion (Waits p input rules w) qs
        → ((q : Answers) (x : Waits p input rules w q) → IsOver p rules x.state (take n w.plan) result.ending shown)
        → AllByRecursion EndsSo qs
    all_end [] a over = tt
    all_end (q ∷ qs) a over = (ends_so q a.0 (over q a.0), all_end qs a.1 over)

    nothing_below : (qs : List Answers) → AllByRecursion EndsSo qs → below p input rules most qs ≡ qs
    nothing_below [] a = refl
    nothing_below (q ∷ qs) a = ap (λ zs. zs ++ below p input rules most qs) (done_leaves game most q (a.0).0 (a.0).1)
        ∙ ap (λ zs. q ∷ zs) (nothing_below qs a.1)

    one_kept : (b : Bool) (q : Answers) (qs : List Answers)
        → cond b (q ∷ cond b qs []) (cond b qs []) ≡ cond b (q ∷ qs) []
    one_kept true q qs = refl
    one_kept false q qs = refl

    all_kept : (r : RunResult) (qs : List Answers) → AllByRecursion EndsSo qs
        → runs_with game r qs ≡ cond (is_eq (result_order result r)) qs []
    all_kept r [] a = by (is_eq (result_order result r))
      where
        by : (b : Bool) → ◌≡◌ {A = List Answers} [] (cond b [] [])
        by true = refl
        by false = refl
    all_kept r (q ∷ qs) a =
        ap (λ (x : RunResult). cond (is_eq (result_order x r)) (q ∷ runs_with game r qs) (runs_with game r qs)) (a.0).2
        ∙ ap (λ zs. cond (is_eq (result_order result r)) (q ∷ zs) zs) (all_kept r qs a.1)
        ∙ one_kept (is_eq (result_order result r)) q qs

    one_chance : (b : Bool) (qs : List Answers) → Equals w.chance (chance_of_all game qs)
        → Equals (chance_of_rows (cond b (record { result = result; chance = w.chance; runs = w.runs } ∷ []) []))
        (chance_of_all game (cond b qs []))
    one_chance true qs h = subst (λ (f : Ratio). Equals f (chance_of_all game qs)) (sym (plus_nothing w.chance)) h
    one_chance false qs h = refl

    one_run : (b : Bool) (qs : List Answers) → w.runs ≡ length qs
        → runs_of_rows (cond b (record { result = result; chance = w.chance; runs = w.runs } ∷ []) [])
        ≡ length (cond b qs [])
    one_run true qs h = omega (arith, h)
    one_run false qs h = refl

    abbrev pub row : Row
    row = record { result = result; chance = w.chance; runs = w.runs }

    one_row : (qs : List Answers) → Stand qs → AllByRecursion EndsSo qs → AreSame (row ∷ []) (account game qs)
    one_row qs s a = record {
      chances = λ r. subst (λ (f : Ratio). Equals (chance_in r (row ∷ [])) f) (sym (chance_is game r qs ∙ ap
          (chance_of_all game) (all_kept r qs a))) (one_chance (is_eq (result_order result r)) qs s.chance);
      runs = λ r. one_run (is_eq (result_order result r)) qs s.runs
          ∙ sym (runs_are game r qs ∙ ap length (all_kept r qs a));
    }

    pub over_accounted : (qs done : List Answers) (old new : List Row) (ws : List WaitingPlay) → Stand qs
        → ((q : Answers) (x : Waits p input rules w q) → IsOver p rules x.state (take n w.plan) result.ending shown)
        → IsAccountOf game done old → AddsRow old row new
        → Covers p input rules most (below p input rules most qs ++ done) ws → Accounted p input rules most new ws
    over_accounted qs done old new ws s over is adds c =
        let ends = all_end qs s.all over in
        let one : HasChance row = record { denominator = s.positive; runs = s.some } in
        let rows : AreSame (row ∷ old) (account game qs ++ account game done) =
        same_joined (row ∷ []) (account game qs) old (account game done) (one_row qs s ends) is.same in
        let all = same_then new (row ∷ old) (account game qs ++ account game done) (one, is.positive) adds.same rows in
        record {
          done = qs ++ done;
          account_is = record {
            same = subst (λ (vs : List Row). AreSame new vs)
                (sym (account_joined game qs done)) all;
            positive = adds.positive one is.positive;
          };
          covers = subst (λ (zs : List Answers). Covers p input rules most (zs ++ done) ws) (nothing_below qs ends) c;
        }

  -- ---- they continue

  module _ (m : Configuration) (taken : ℕ) (shown : List ℕ) where
    abbrev pub gone : WaitingPlay
    gone = gone_to m taken shown w.chance w.runs

    waits_on : (q : Answers) (x : Waits p input rules w q) → Came p rules x.state w.plan m (drop taken input) shown
        → Waits p input rules gone q
    waits_on q x came = record {
      state = came.state;
      stands = came.stands;
      begun = q;
      answers = sym (append-nil q);
      reached = λ later. game_from q x later ∙ came.reached later;
      opens = x.opens;
      positive = x.positive;
    }

    all_on : (qs : List Answers) → AllByRecursion (Waits p input rules w) qs
        → ((q : Answers) (x : Waits p input rules w q) → Came p rules x.state w.plan m (drop taken input) shown)
        → AllByRecursion (Waits p input rules gone) qs
    all_on [] a came = tt
    all_on (q ∷ qs) a came = (waits_on q a.0 (came q a.0), all_on qs a.1 came)

    pub gone_stands : (qs : List Answers) → Stand qs
        → ((q : Answers) (x : Waits p input rules w q) → Came p rules x.state w.plan m (drop taken input) shown)
        → m.spent ≡ false → taken ≤ length input → CountsFor p input rules gone qs
    gone_stands qs s came unspent within = record {
      all = all_on qs s.all came;
      unspent = unspent;
      within = within;
      chance = s.chance;
      positive = s.positive;
      runs = s.runs;
      some = s.some;
    }

  -- ---- they ask

  module _ (n : ℕ) (some : 0 < n) (reads : IsReader game most) where
    abbrev pub AsksSo : Answers → Type 0
    AsksSo q = (beside : List ℕ) × (game q ≡ Asks (pos n) beside)

    asks_so : (q : Answers) (x : Waits p input rules w q) → IsAsked p rules x.state w.plan (pos n) → AsksSo q
    asks_so q x a = (a.shown, game_there q x ∙ a.asks)

    pub all_ask : (qs : List Answers) → AllByRecursion (Waits p input rules w) qs
        → ((q : Answers) (x : Waits p input rules w q) → IsAsked p rules x.state w.plan (pos n))
        → AllByRecursion AsksSo qs
    all_ask [] a asks = tt
    all_ask (q ∷ qs) a asks = (asks_so q a.0 (asks q a.0), all_ask qs a.1 asks)

    abbrev more : ℕ → Answers → Answers
    more k q = q ++ pos k ∷ []

    product_more : (ns : List ℤ) → bound_product (ns ++ pos n ∷ []) ≡ bound_product ns * n
    product_more [] = let one : n * 1 ≡ 1 * n = omega arith in one
    product_more (m ∷ ns) = let one = product_more ns in omega (arith, ap (λ z. answer_count m * z) one)

    product_after : (k : ℕ) (q : Answers) → AsksSo q
        → bound_product (bounds game (more k q)) ≡ bound_product (bounds game q) * n
    product_after k q a =
        ap bound_product (bounds-append game [] q (pos k ∷ []) ∙ ap (λ v. bounds game q ++ bound_of v ∷ []) a.1)
        ∙ product_more (bounds game q)

    waits_after : (k : ℕ) (q : Answers) → is_answer (pos n) (pos k) ≡ true → AsksSo q → Waits p input rules w q
        → Waits p input rules (after_answer w (pos n) (pos k)) (more k q)
    waits_after k q inside a x = record {
      state = x.state;
      stands = x.stands;
      begun = x.begun;
      answers = ap (more k) x.answers ∙ append_assoc x.begun w.plan (pos k ∷ []);
      reached = x.reached;
      opens = reads.inside q (pos n) (pos k) a.0 a.1 inside;
      positive = subst (λ z. 0 < z) (sym (product_after k q a))
          (mul-le 1 1 (bound_product (bounds game q)) n x.positive some);
    }

    all_after : (k : ℕ) (qs : List Answers) → is_answer (pos n) (pos k) ≡ true → AllByRecursion AsksSo qs
        → AllByRecursion (Waits p input rules w) qs
        → AllByRecursion (Waits p input rules (after_answer w (pos n) (pos k))) (map (more k) qs)
    all_after k [] inside a x = tt
    all_after k (q ∷ qs) inside a x = (waits_after k q inside a.0 x.0, all_after k qs inside a.1 x.1)

    abbrev divided : Ratio → Ratio
    divided f = record { numerator = f.numerator; denominator = f.denominator * n }

    chances_after : (k : ℕ) (qs : List Answers) → AllByRecursion AsksSo qs
        → Equals (divided (chance_of_all game qs)) (chance_of_all game (map (more k) qs))
    chances_after k [] a = let none : 0 * 1 ≡ 0 * (1 * n) = omega arith in none
    chances_after k (q ∷ qs) a =
        let b : ℕ = bound_product (bounds game q) in
        let before : Ratio = chance_of_all game qs in
        let later : Ratio = chance_of_all game (map (more k) qs) in
        let rest : before.numerator * later.denominator ≡ later.numerator * (before.denominator * n) =
        chances_after k qs a.1 in
        let product : bound_product (bounds game (more k q)) ≡ b * n = product_after k q a.0 in
        let whole : (1 * before.denominator + before.numerator * b) * (b * n * later.denominator)
        ≡ (1 * later.denominator + later.numerator * (b * n)) * (b * before.denominator * n) =
        omega (arith, ap (λ m. m * (b * b * n)) rest) in
        rw product whole

    stands_after : (k : ℕ) (qs : List Answers) → is_answer (pos n) (pos k) ≡ true → AllByRecursion AsksSo qs → Stand qs
        → CountsFor p input rules (after_answer w (pos n) (pos k)) (map (more k) qs)
    stands_after k qs inside a s =
        let all : Ratio = chance_of_all game qs in
        let first : w.chance.numerator * (all.denominator * n) ≡ all.numerator * (w.chance.denominator * n) =
        omega (arith, ap (λ m. m * n) s.chance) in
        record {
          all = all_after k qs inside a s.all;
          unspent = s.unspent;
          within = s.within;
          chance = equals_then (divided w.chance) (divided all) (chance_of_all game (map (more k) qs))
              (mul-le 1 1 all.denominator n (total_positive qs s.all) some) first (chances_after k qs a);
          positive = mul-le 1 1 w.chance.denominator n s.positive some;
          runs = s.runs ∙ sym (length-map qs (more k));
          some = s.some;
        }
      where
        total_positive : (qs : List Answers) → AllByRecursion (Waits p input rules w) qs
            → 0 < (chance_of_all game qs).denominator
        total_positive [] a = omega arith
        total_positive (q ∷ qs) a = mul-le 1 1 (bound_product (bounds game q)) (chance_of_all game qs).denominator
            (a.0).positive (total_positive qs a.1)

    -- ---- the runs below a question, by its answers

    abbrev spread : List Answers → ℕ → List Answers
    spread qs zero = []
    spread qs (suc k) = below p input rules most (map (more (suc k)) qs) ++ spread qs k

    abbrev spread_one : Answers → ℕ → List Answers
    spread_one q zero = []
    spread_one q (suc k) = leaves game (more (suc k) q) most ++ spread_one q k

    spread_none : (k : ℕ) → spread [] k ≡ []
    spread_none zero = refl
    spread_none (suc k) = spread_none k

    spread_more : (q : Answers) (qs : List Answers) (k : ℕ)
        → Alike game (spread (q ∷ qs) k) (spread_one q k ++ spread qs k)
    spread_more q qs zero = alike_self []
    spread_more q qs (suc k) =
        let one = leaves game (more (suc k) q) most in
        let rest = below p input rules most (map (more (suc k)) qs) in
        then_alike game ((one ++ rest) ++ spread (q ∷ qs) k) ((one ++ rest) ++ (spread_one q k ++ spread qs k))
        ((one ++ spread_one q k) ++ (rest ++ spread qs k))
        (both_alike game (one ++ rest) (one ++ rest) (spread (q ∷ qs) k) (spread_one q k ++ spread qs k)
        (alike_self (account game (one ++ rest))) (spread_more q qs k))
        (middle_turned game one rest (spread_one q k) (spread qs k))

    counted_up : (q : Answers) (k : ℕ)
        → Alike game (flat_map (λ j. leaves game (q ++ j ∷ []) most) (map pos (range_with_len 1 k))) (spread_one q k)
    counted_up q zero = alike_self []
    counted_up q (suc k) =
        let each : ℤ → List Answers = λ j. leaves game (q ++ j ∷ []) most in
        let before = flat_map each (map pos (range_with_len 1 k)) in
        let last = leaves game (more (suc k) q) most in
        let split : flat_map each (map pos (range_with_len 1 (suc k))) ≡ before ++ last =
        range_split each 1 k (suc k) (omega arith) in
        then_alike game (flat_map each (map pos (range_with_len 1 (suc k)))) (before ++ last) (last ++ spread_one q k)
        (same_alike game (flat_map each (map pos (range_with_len 1 (suc k)))) (before ++ last) split)
        (then_alike game (before ++ last) (last ++ before) (last ++ spread_one q k) (swapped game before last)
        (both_alike game last last before (spread_one q k) (alike_self (account game last)) (counted_up q k)))

    spread_leaves : (d : ℕ) (q : Answers) → most ≡ suc d → AsksSo q → is_open (game q) ≡ true
        → leaves game q most ≡ flat_map (λ j. leaves game (q ++ j ∷ []) most) (answers_to (pos n))
    spread_leaves d q is a opens =
        ap (leaves game q) is ∙ asked_leaves game d q (pos n) a.0 a.1
        ∙ all_answers (λ j. leaves game (q ++ j ∷ []) d) (λ j. leaves game (q ++ j ∷ []) most) (pos n)
        (λ j inside. sym (ap (leaves game (q ++ j ∷ [])) is ∙ roomy game most reads d (q ++ j ∷ [])
        (reads.inside q (pos n) j a.0 a.1 inside) (omega (arith, is, length-append q (j ∷ [])))))

    leaves_spread : (q : Answers) → AsksSo q → is_open (game q) ≡ true
        → Alike game (leaves game q most) (spread_one q n)
    leaves_spread q a opens =
        let room : 0 < most = omega (arith, reads.few q (pos n) a.0 a.1) in
        let above = above_none most room in
        then_alike game (leaves game q most) (flat_map (λ j. leaves game (q ++ j ∷ []) most) (answers_to (pos n)))
        (spread_one q n)
        (same_alike game (leaves game q most) (flat_map (λ j. leaves game (q ++ j ∷ []) most) (answers_to (pos n)))
        (spread_leaves above.0 q above.1 a opens)) (counted_up q n)

    below_spread : (qs : List Answers) → AllByRecursion AsksSo qs → AllByRecursion (Waits p input rules w) qs
        → Alike game (below p input rules most qs) (spread qs n)
    below_spread [] a x = same_alike game [] (spread [] n) (sym (spread_none n))
    below_spread (q ∷ qs) a x =
        let one = leaves game q most in
        let rest = below p input rules most qs in
        then_alike game (one ++ rest) (spread_one q n ++ spread qs n) (spread (q ∷ qs) n)
        (both_alike game one (spread_one q n) rest (spread qs n) (leaves_spread q a.0 (x.0).opens)
        (below_spread qs a.1 x.1))
        (alike_back (account game (spread (q ∷ qs) n)) (account game (spread_one q n ++ spread qs n))
        (spread_more q qs n))

    -- ---- those that are put in

    answers_put : (k : ℕ) (old new : List WaitingPlay) (qs done : List Answers) → k ≤ n
        → PutsAnswers w (pos n) k old new
        → AllByRecursion AsksSo qs → Stand qs → Covers p input rules most (spread qs k ++ done) old
        → Covers p input rules most done new
    answers_put zero old new qs done few put a s c =
        subst (λ (ws : List WaitingPlay). Covers p input rules most done ws) (sym put) c
    answers_put (suc k) old new qs done few put a s c =
        let last = below p input rules most (map (more (suc k)) qs) in
        let turned : Covers p input rules most (spread qs k ++ (last ++ done)) old =
        covers_alike p input rules most old ((last ++ spread qs k) ++ done) (spread qs k ++ (last ++ done))
        (then_alike game ((last ++ spread qs k) ++ done) (last ++ (spread qs k ++ done)) (spread qs k ++ (last ++ done))
        (same_alike game ((last ++ spread qs k) ++ done) (last ++ (spread qs k ++ done))
        (append_assoc last (spread qs k) done)) (front_turned game last (spread qs k) done)) c in
        let before : Covers p input rules most (last ++ done) put.0 =
        answers_put k old put.0 qs (last ++ done) (omega (arith, few)) put.1 a s turned in
        put_in p input rules most put.0 new (after_answer w (pos n) (pos (suc k))) (map (more (suc k)) qs) done put.2
        (stands_after (suc k) qs (is_answer_from n (suc k) (omega arith) few) a s) before

    pub asked_covers : (old new : List WaitingPlay) (qs done : List Answers) → PutsAnswers w (pos n) n old new
        → AllByRecursion AsksSo qs → Stand qs → Covers p input rules most (below p input rules most qs ++ done) old
        → Covers p input rules most done new
    asked_covers old new qs done puts a s c =
        answers_put n old new qs done (omega arith) puts a s
        (covers_alike p input rules most old (below p input rules most qs ++ done) (spread qs n ++ done)
        (both_alike game (below p input rules most qs) (spread qs n) done done (below_spread qs a s.all)
        (alike_self (account game done))) c)

-- ---- what is accounted for

pub positive_is : (b : ℤ) → pos 1 ≤ℤ b → b ≡ pos (unsigned_abs b)
positive_is (pos n) low = refl
positive_is (negsuc n) low = absurd low.le

pub positive_some : (b : ℤ) → pos 1 ≤ℤ b → 0 < unsigned_abs b
positive_some (pos zero) low = absurd low.le
positive_some (pos (suc n)) low = omega arith
positive_some (negsuc n) low = absurd low.le

module _ (p : StoredProgram) (input : List (List ℕ)) (rules : Rules) (most : ℕ) (w : WaitingPlay)
    (old : List WaitingPlay)
    (tally : List Row) (a : Accounted p input rules most tally (w ∷ old)) where
  abbrev run : Answers → Outcome Finish (List ℕ)
  run = play p input rules

  abbrev Each : (State → Type 0) → Type 0
  Each P = (S : State) → IsStageAt p rules w.machine (drop w.taken input) w.shown S → P S

  -- a play waits there
  abbrev one_waits : (q : Answers) × Waits p input rules w q
  one_waits = there a.covers.0 (a.covers.1).all
      (let some : 0 < length a.covers.0 = omega (arith, (a.covers.1).runs, (a.covers.1).some) in some)
    where
      there : (qs : List Answers) → AllByRecursion (Waits p input rules w) qs → 0 < length qs
          → (q : Answers) × Waits p input rules w q
      there [] all some = absurd (omega (arith, some))
      there (q ∷ qs) all some = (q, all.0)

  pub one_opens : (S : State) × IsStageAt p rules w.machine
      (drop w.taken input) w.shown S × (is_open (run_from p rules S w.plan) ≡ true)
  one_opens =
      let x = one_waits.1 in (
        x.state,
        x.stands,
        subst (λ (v : Outcome Finish (List ℕ)). is_open v ≡ true)
            (game_there p input rules most w one_waits.0 x) x.opens,
      )

  pub settled_over : (n : ℕ) (e : Ending) (shown : List ℕ) (new : List Row)
      → Each (λ S. IsOver p rules S (take n w.plan) e shown)
      → AddsRow tally (record {
        result = record { ending = e; line = last_line (lines shown) };
        chance = w.chance;
        runs = w.runs;
      }) new
      → Accounted p input rules most new old
  settled_over n e shown new over adds =
      over_accounted p input rules most w n (record { ending = e; line = last_line (lines shown) }) shown refl
      a.covers.0 a.done tally new old a.covers.1 (λ q x. over x.state x.stands) a.account_is adds a.covers.2

  pub settled_gone : (m : Configuration) (taken : ℕ) (shown : List ℕ) (new : List WaitingPlay)
      → Each (λ S. Came p rules S w.plan m (drop taken input) shown) → m.spent ≡ false → taken ≤ length input
      → Puts old (gone_to m taken shown w.chance w.runs) new → Accounted p input rules most tally new
  settled_gone m taken shown new came unspent within put = record {
    done = a.done;
    account_is = a.account_is;
    covers = puts p input rules most old new (gone_to m taken shown w.chance w.runs) a.covers.0 a.done put
        (gone_stands p input rules most w m taken shown a.covers.0 a.covers.1
        (λ q x. came x.state x.stands) unspent within) a.covers.2;
  }

  module _ (reads : IsReader run most) (bound : ℤ) (asks : Each (λ S. IsAsked p rules S w.plan bound)) where
    abbrev asked_there : (q : Answers) × ((beside : List ℕ) × (run q ≡ Asks bound beside))
    asked_there =
        let x = one_waits.1 in
        let y = asks x.state x.stands in
        (one_waits.0, (y.shown, game_there p input rules most w one_waits.0 x ∙ y.asks))

    pub asked_positive : pos 1 ≤ℤ bound
    asked_positive = reads.positive asked_there.0 bound asked_there.1.0 asked_there.1.1

    pub planned_less : length w.plan < most
    planned_less =
        let few : length one_waits.0 < most = reads.few asked_there.0 bound asked_there.1.0 asked_there.1.1 in
        let x = one_waits.1 in
        omega (arith, few, ap length x.answers, length-append x.begun w.plan)

    pub settled_asked : (new : List WaitingPlay) → PutsAnswers w bound (unsigned_abs bound) old new
        → Accounted p input rules most tally new
    settled_asked new put =
        let n : ℕ = unsigned_abs bound in
        let is : bound ≡ pos n = positive_is bound asked_positive in
        let some : 0 < n = positive_some bound asked_positive in
        let by : Each (λ S. IsAsked p rules S w.plan (pos n)) =
        subst (λ (b : ℤ). Each (λ S. IsAsked p rules S w.plan b)) is asks in
        let puts_so : PutsAnswers w (pos n) n old new = subst (λ (b : ℤ). PutsAnswers w b n old new) is put in
        record {
          done = a.done;
          account_is = a.account_is;
          covers = asked_covers p input rules most w n some reads old new a.covers.0 a.done puts_so
              (all_ask p input rules most w n some reads a.covers.0 (a.covers.1).all (λ q x. by x.state x.stands))
              a.covers.1 a.covers.2;
        }

-- ---- the beginning and the end

module _ (p : StoredProgram) (input : List (List ℕ)) (rules : Rules) (most : ℕ) where
  play_from : (a : Answers) → play p input rules a ≡ run_from p rules (first_state p input rules.choose) a
  unfolding play
  play_from a = refl

  pub accounted_first : (m : Configuration) → m.spent ≡ false → Represents p.lines m (first_state p input rules.choose)
      → IsReader (play p input rules) most → Accounted p input rules most [] (first_waiting m ∷ [])
  accounted_first m unspent represents reads = record {
    done = [];
    account_is = record { same = same_from_alike [] [] (alike_self []); positive = tt };
    covers = (
      [] ∷ [],
      record {
        all = (
          record {
            state = first_state p input rules.choose;
            stands = record { represents = represents; lines_left = refl; choose = refl; same_end = λ more. refl };
            begun = [];
            answers = refl;
            reached = play_from;
            opens = reads.begins;
            positive = omega arith;
          },
          tt,
        );
        unspent = unspent;
        within = omega arith;
        chance = refl;
        positive = omega arith;
        runs = refl;
        some = omega arith;
      },
      same_alike (play p input rules) (tree (play p input rules) most) ((leaves (play p input rules) [] most ++ [])
          ++ []) (sym (append-nil (leaves (play p input rules) [] most ++ [])
          ∙ append-nil (leaves (play p input rules) [] most))),
    );
  }

  pub accounted_last : (tally : List Row) → Accounted p input rules most tally []
      → IsAccountOf (play p input rules) (tree (play p input rules) most) tally
  accounted_last tally a = record {
    same = same_alike_of tally (account (play p input rules) a.done)
        (account (play p input rules) (tree (play p input rules) most)) (a.account_is).same (alike_back (account
        (play p input rules) (tree (play p input rules) most)) (account (play p input rules) a.done) a.covers);
    positive = (a.account_is).positive;
  }

  pub accounted_next : (tally : List Row) (old new : List WaitingPlay) (w : WaitingPlay) → Takes old w new
      → Accounted p input rules most tally old → Accounted p input rules most tally (w ∷ new)
  accounted_next tally old new w t a = record {
    done = a.done;
    account_is = a.account_is;
    covers = taken_out p input rules most old new w a.done t a.covers;
  }
