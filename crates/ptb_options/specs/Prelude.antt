-- This file passes on the definitions that the clauses of this crate cite most. It declares nothing.
pub use Rattle.clap.specs.Words.{Accepts}
pub use Rattle.ptb_options.specs.AnswerLists.{SpellsAnswers}
pub use Rattle.ptb_options.specs.ListMistakes.{IsListOf}
pub use Rattle.ptb_options.specs.Messages.{number_text, range_text}
pub use Rattle.ptb_options.specs.Options.{Requests, RequestsMode, HasBound, HasMemorySize, HasMistake, IsRulesOf}
pub use Rattle.ptb_options.specs.Options.{IsFirstMisspelled, IsSpelled, RefusesOptions, RefusesAnswers, RefusesIfGiven}
pub use Rattle.ptb_options.specs.Options.{SpellsIfGiven, LacksMemory, clash, clashes, entries_of, first_fault, form_of}
pub use Rattle.ptb_options.specs.Options.{is_given, options_of}
pub use Rattle.ptb_options.specs.WrongNumbers.{HasNoWrongNumber, HasNoWrongValue, IsNumberOption, IsNumberRange}
pub use Rattle.ptb_options.specs.WrongNumbers.{IsWrongFor, IsWrongNumber, IsWrongValue, NamesNoNumber, option_argument}
pub use Rattle.ptb_options.specs.declared.mistakes.ListOption.{ListOption}
