-- To be believed by whoever reads an answer: the numbers of refusals, the questions, the rows of an answer and the text that is printed.
pub mod Types
pub mod Refusals
pub mod Questions
pub mod Report
pub mod Rows
pub mod Program
pub mod Text
