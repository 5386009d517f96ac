-- This file names the files of definitions.
pub mod Outcome
pub mod Choices
pub mod AskedQuestions
pub mod Seeds
pub mod DrawnAnswers
pub mod AnswerText
