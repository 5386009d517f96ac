-- This file proves the results of a play that continues from the state of another one.
-- Main lemmas: `gone_on` and `gone_over`.
use Rattle.std.proofs.Common.{◌≡◌, ℕ, zero, suc, List, [], ◌++◌, take, length, refl, sym, ap, subst}
use Rattle.std.proofs.Common.{◌∙◌, true, append-nil}
use Rattle.ptb_text.specs.Statements.{StoredProgram}
use Rattle.ptb_answers.specs.Outcome.{Answers, is_open}
use Rattle.ptb_answers.specs.declared.rules.Rules.{Rules}
use Rattle.ptb_command.specs.declared.ending.Ending.{Ending}
use Rattle.ptb_command.specs.Configuration.{Configuration}
use Rattle.ptb_command.specs.State.{State}
use Rattle.ptb_machine.specs.Laws.{RunLaws}
use Rattle.ptb_machine.specs.Steps.{PlainTurns}
use Rattle.ptb_machine.specs.Play.{run_from}
use Rattle.ptb_chances.specs.StagePlays.{Came, IsOver, SameEnd, IsStageAt}
use Rattle.ptb_chances.proofs.PlaySteps.{advanced}
use Rattle.ptb_chances.proofs.PickedAnswers.{whole}

none_taken : (n : ℕ) (b : Answers) → b ≡ [] → take n b ≡ []
none_taken n b none = ap (take n) none ∙ by n
  where
    by : (n : ℕ) → ◌≡◌ {A = Answers} (take n []) []
    by zero = refl
    by (suc n) = refl

module _ (p : StoredProgram) (rules : Rules) (S : State) (a : Answers) (m : Configuration) (left : List (List ℕ))
    (shown : List ℕ) (u : Came p rules S a m left shown) where
  came_later : (n : Configuration) (rest : List (List ℕ)) (text : List ℕ) → Came p rules u.state [] n rest text
      → Came p rules S a n rest text
  came_later n rest text x = record {
    state = x.state;
    stands = x.stands;
    reached = λ later. u.reached later ∙ x.reached later;
  }

  over_later : (b none : Answers) (e : Ending) (text : List ℕ) → b ≡ a → none ≡ [] → IsOver p rules u.state none e text
      → IsOver p rules S b e text
  over_later b none e text same empty o = record {
    finish = o.finish;
    outcome = λ later.
        ap (λ c. run_from p rules S (c ++ later)) same ∙ u.reached later
        ∙ ap (λ c. run_from p rules u.state (c ++ later)) (sym empty) ∙ o.outcome later;
    ending_is = o.ending_is;
    line_is = o.line_is;
  }

  -- of what was shown, only the end is kept
  came_ended : (end : List ℕ) → SameEnd shown end → Came p rules S a m left end
  came_ended end same = record {
    state = u.state;
    stands = record {
      represents = (u.stands).represents;
      lines_left = (u.stands).lines_left;
      choose = (u.stands).choose;
      same_end = λ more. (u.stands).same_end more ∙ same more;
    };
    reached = u.reached;
  }

  opens_later : is_open (run_from p rules S a) ≡ true → is_open (run_from p rules u.state []) ≡ true
  opens_later opens = subst (λ o. is_open o ≡ true) (ap (run_from p rules S) (sym (append-nil a)) ∙ u.reached []) opens

-- ---- by other names

came_named : (q p : StoredProgram) (r rules : Rules) (S : State) (a b : Answers) (m n : Configuration)
    (left now : List (List ℕ)) (shown text : List ℕ)
    → q ≡ p → r ≡ rules → a ≡ b → m ≡ n → left ≡ now → shown ≡ text
    → Came q r S a m left shown → Came p rules S b n now text
came_named q p r rules S a b m n left now shown text program by answers machine lines_are text_is x =
    subst (λ (z : StoredProgram). Came z rules S b n now text) program
    (subst (λ (z : Rules). Came q z S b n now text) by
    (subst (λ (z : Answers). Came q r S z n now text) answers
    (subst (λ (z : Configuration). Came q r S a z now text) machine
    (subst (λ (z : List (List ℕ)). Came q r S a m z text) lines_are
    (subst (λ (z : List ℕ). Came q r S a m left z) text_is x)))))

over_named : (q p : StoredProgram) (r rules : Rules) (S : State) (a : Answers) (e : Ending) (text : List ℕ) → q ≡ p
    → r ≡ rules → IsOver q r S a e text → IsOver p rules S a e text
over_named q p r rules S a e text program by x =
    subst (λ (z : StoredProgram). IsOver z rules S a e text) program (subst (λ (z : Rules). IsOver q z S a e text) by x)

-- ---- one command more, where nothing was asked before

-- commands that ask nothing were done, by a machine with its program and its rules by another name; these lines are
-- left now, and this was shown
pub record HasAdvanced (p q : StoredProgram) (rules r : Rules) (m new : Configuration) (left now : List (List ℕ))
    (shown text : List ℕ) : Type 0 where
  pub program : q ≡ p
  pub by : r ≡ rules
  pub lines_are : now ≡ left
  pub text_is : text ≡ shown
  pub count : ℕ
  pub turns : PlainTurns q r.limit count m new

module _ (laws : RunLaws) (p q : StoredProgram) (rules r : Rules) (S : State) (m new : Configuration)
    (left now : List (List ℕ)) (shown text : List ℕ) (a : HasAdvanced p q rules r m new left now shown text)
    (u : Came p rules S [] m left shown) where
  -- the commands that ask nothing are done
  pub gone : Came q r S [] new now text
  gone =
      came_named q q r r S [] [] new new left now shown text refl refl refl refl (sym a.lines_are) (sym a.text_is)
      (advanced laws q r a.count S m new [] shown left (came_named p q rules r S [] [] m m left left shown shown
      (sym a.program) (sym a.by) refl refl refl refl u) a.turns)

  pub gone_opens : (b : Answers) → b ≡ [] → is_open (run_from p rules S []) ≡ true
      → is_open (run_from q r gone.state b) ≡ true
  gone_opens b none opens =
      let there : is_open (run_from q r S []) ≡ true = subst (λ (z : StoredProgram). is_open (run_from z r S []) ≡ true)
      (sym a.program) (subst (λ (z : Rules). is_open (run_from p z S []) ≡ true) (sym a.by) opens) in
      subst (λ (z : Answers). is_open (run_from q r gone.state z) ≡ true) (sym none)
      (opens_later q r S [] new now text gone there)

  -- it is noted where the run is
  pub gone_waits : (k : Configuration) (rest : List (List ℕ)) (end : List ℕ) → k ≡ new → now ≡ rest → SameEnd text end
      → Came p rules S [] k rest end
  gone_waits k rest end same rest_is ended =
      came_named q p r rules S [] [] new k now rest end end a.program a.by refl (sym same) rest_is refl
      (came_ended q r S [] new now text gone end ended)

  -- then one is done
  pub gone_on : (b : Answers) (k : Configuration) (rest rest2 : List (List ℕ)) (more : List ℕ) → b ≡ [] → rest ≡ rest2
      → ((t : State) → IsStageAt q r new now text t → Came q r t b k rest more) → Came p rules S [] k rest2 more
  gone_on b k rest rest2 more none rest_is plays =
      let y : Came q r gone.state [] k rest more = subst (λ (z : Answers). Came q r gone.state z k rest more) none
      (plays gone.state gone.stands) in
      came_named q p r rules S [] [] k k rest rest2 more more a.program a.by refl refl rest_is refl
      (came_later q r S [] new now text gone k rest more y)

  pub gone_over : (b : Answers) (g : ℕ) (e : Ending) (more : List ℕ) → b ≡ []
      → ((t : State) → IsStageAt q r new now text t → IsOver q r t (take g b) e more) → IsOver p rules S [] e more
  gone_over b g e more none plays = over_named q p r rules S [] e more a.program a.by
      (over_later q r S [] new now text gone [] (take g b) e more refl (none_taken g b none)
      (plays gone.state gone.stands))

-- ---- what is after a plan

module _ (p q : StoredProgram) (rules r : Rules) (program : q ≡ p) (by : r ≡ rules) (S : State)
    (a : Answers) (m : Configuration) (left now : List (List ℕ)) (lines_are : now ≡ left) (shown : List ℕ)
    (u : Came p rules S a m left shown) where
  pub named : Came q r S a m now shown
  named = came_named p q rules r S a a m m left now shown shown (sym program) (sym by) refl refl (sym lines_are) refl u

  pub plan_opens : is_open (run_from p rules S a) ≡ true → is_open (run_from q r named.state []) ≡ true
  plan_opens opens = opens_later q r S a m now shown named (subst (λ (z : StoredProgram). is_open (run_from z r S a)
      ≡ true) (sym program) (subst (λ (z : Rules). is_open (run_from p z S a) ≡ true) (sym by) opens))

  pub plan_over : (e : Ending) (more : List ℕ) → ((t : State) → IsStageAt q r m now shown t → IsOver q r t [] e more)
      → IsOver p rules S (take (length a) a) e more
  plan_over e more goes = over_named q p r rules S (take (length a) a) e more program by
      (over_later q r S a m now shown named (take (length a) a) [] e more (whole a) refl
      (goes named.state named.stands))

  pub plan_waits : (k : Configuration) (rest rest2 : List (List ℕ)) (end : List ℕ) → rest ≡ rest2
      → ((t : State) → IsStageAt q r m now shown t → Came q r t [] k rest end) → Came p rules S a k rest2 end
  plan_waits k rest rest2 end rest_is goes = came_named q p r rules S a a k k rest rest2 end end program by refl refl
      rest_is refl (came_later q r S a m now shown named k rest end (goes named.state named.stands))

pub turns_named : (q p : StoredProgram) (r rules : Rules) (n : ℕ) (m new : Configuration) → q ≡ p → r ≡ rules
    → PlainTurns q r.limit n m new → PlainTurns p rules.limit n m new
turns_named q p r rules n m new program by x = subst (λ (z : StoredProgram). PlainTurns z rules.limit n m new) program
    (subst (λ (z : Rules). PlainTurns q z.limit n m new) by x)
