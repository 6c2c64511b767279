pub mod Tables
pub mod Texts
pub mod Going
pub mod HeaderAlone
pub mod WholeInput
pub mod Answering
