-- This file proves what the next byte says.
use Rattle.ptb_text.proofs.TakenTokens.{text_is, next_is, next_there, next_within, next_none}
use Rattle.ptb_text.proofs.cursor.Cursor.next_byte.Goals as goal

pub returns-then-self-ne0 : goal.returns-then-self-ne0
returns-then-self-ne0 c = next_there _ _ _ _ _ (text_is c.self.view_is) (next_is c.self.view_is c.self.invariant.0)
    c.self.invariant.4 c.if-self-ne0.true

pub returns-then-self : goal.returns-then-self
returns-then-self c = next_none _ _ _ _ (text_is c.self.view_is) (next_is c.self.view_is c.self.invariant.0)
    c.if-self.true

pub returns : goal.returns
returns c = next_within _ _ _ _ _ (text_is c.self.view_is) (next_is c.self.view_is c.self.invariant.0)
    c.self.invariant.4 c.self.invariant.2 c.if-self.false
