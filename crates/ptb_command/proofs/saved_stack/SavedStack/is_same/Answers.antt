-- This file answers what is left to prove of saved stacks that are compared.
use Rattle.std.proofs.Common.{◌≡◌, ◌∙◌, List, reverse, sym, ap}
use Rattle.ptb_command.specs.declared.stack.Open.{Open}
use Rattle.ptb_command.proofs.Sameness.{same_reverse}
use Rattle.ptb_command.proofs.saved_stack.SavedStack.is_same.Goals as goal

pub returns : goal.returns
returns c =
    let mine : c.as_slice-opens.result.now ≡ c.self.inside.opens.items = c.as_slice-opens.ensures.value in
    let theirs : c.as_slice-others.result.now ≡ c.other.inside.opens.items = c.as_slice-others.ensures.value in (
      λ same. sym c.self.view_is ∙ ap (λ (l : List Open). reverse l) (sym mine ∙ c.same_opens.ensures.0 same ∙ theirs)
          ∙ c.other.view_is,
      λ same. c.same_opens.ensures.1 (mine ∙ same_reverse _ _ (c.self.view_is ∙ same ∙ sym c.other.view_is)
          ∙ sym theirs),
    )
