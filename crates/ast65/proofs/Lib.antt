pub mod PartByPart
pub mod Lists
pub mod SingleNumber
pub mod UniqueStatement
pub mod CommaLists
pub mod DisplayedNames
pub mod StatementTotality
