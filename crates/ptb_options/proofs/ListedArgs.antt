-- This file proves which rule clap gets for an argument, from what each of its parts says.
-- Main lemmas: `flag_rule`, `text_rule` and `number_rule`.
use Rattle.std.proofs.Common.{◌≡◌, ◌∙◌, ap, ap₂, sym, List, ℕ, Option, Some, false}
use Rattle.std.specs.Borrow.{Bor}
use Rattle.clap.specs.declared.builder.Arg.{Arg}
use Rattle.clap.specs.declared.builder.ArgAction.TheVariants.{SetTrue}
use Rattle.clap.specs.declared.builder.ValueParser.{ValueParser}
use Rattle.clap.specs.Words.{Rule, new_rule, rule_of}
use Rattle.ptb_options.specs.declared.command_line.ArgKind.{ArgKind}
use Rattle.ptb_options.specs.declared.command_line.ArgKind.TheVariants as kinds
use Rattle.ptb_options.specs.CommandLine.{rule_by}

-- the argument was made by its name, and has its help
pub record IsNamed (b : Arg) (name : Bor (List ℕ)) : Type 0 where
  pub rule : rule_of b ≡ new_rule name.now
  pub local : b.global ≡ false

module _ (b : Arg) (name : Bor (List ℕ)) (kind : ArgKind) (named : IsNamed b name) where
  pub record IsRule (result : Arg) : Type 0 where
    pub rule : rule_of result ≡ rule_by name.now kind
    pub local : result.global ≡ false

  -- it is an option
  module _ (d : Arg) (long : d ≡ record b { long = Some name }) where
    long_rule : rule_of d ≡ record (new_rule name.now) { long = Some name.now }
    long_rule = ap rule_of long ∙ ap (λ (r : Rule). record r { long = Some name.now }) named.rule

    local_d : d.global ≡ false
    local_d = ap (λ (x : Arg). x.global) long ∙ named.local

    -- without a value
    pub flag_rule : (e : Arg) → e ≡ record d { action = Some SetTrue } → kind ≡ kinds.Flag → IsRule e
    flag_rule e acts is = record {
      rule =
          ap rule_of acts ∙ ap (λ (r : Rule). record r { action = Some SetTrue }) long_rule
          ∙ ap (rule_by name.now) (sym is);
      local = ap (λ (x : Arg). x.global) acts ∙ local_d;
    }

    -- with one
    module _ (e : Arg) (valued : rule_of e ≡ record (rule_of d) { value_names = 1 }) (same : e.global ≡ d.global) where
      text_rule_by : rule_of e ≡ record (new_rule name.now) { long = Some name.now; value_names = 1 }
      text_rule_by = valued ∙ ap (λ (r : Rule). record r { value_names = 1 }) long_rule

      local_e : e.global ≡ false
      local_e = same ∙ local_d

      pub text_rule : kind ≡ kinds.List → IsRule e
      text_rule is = record { rule = text_rule_by ∙ ap (rule_by name.now) (sym is); local = local_e }

      pub number_rule : (f : Arg) (parser : ValueParser) → f ≡ record e { value_parser = f.value_parser }
          → f.value_parser ≡ Some parser → kind ≡ kinds.Number parser → IsRule f
      number_rule f parser others given is = record {
        rule =
            ap rule_of others ∙ ap₂ (λ (r : Rule) (o : Option ValueParser). record r { parser = o }) text_rule_by given
            ∙ ap (rule_by name.now) (sym is);
        local = ap (λ (x : Arg). x.global) others ∙ local_e;
      }

  -- it is none
  pub operand_rule : (d : Arg) → rule_of d ≡ record (rule_of b) { value_names = 1 } → d.global ≡ b.global
      → kind ≡ kinds.Operand → IsRule d
  operand_rule d valued same is = record {
    rule = valued ∙ ap (λ (r : Rule). record r { value_names = 1 }) named.rule ∙ ap (rule_by name.now) (sym is);
    local = same ∙ named.local;
  }
