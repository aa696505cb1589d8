pub mod Digits
pub mod AnswerLines
pub mod SessionRuns
pub mod RunLines
