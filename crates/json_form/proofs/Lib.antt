mod Members
mod Lists
mod SayOrFail
mod Objects
mod KeptForms
mod WrittenForms
pub mod OneForm
mod WordLists
mod EntryLists
pub mod Tokens
pub mod Lines
pub mod AloneForms
