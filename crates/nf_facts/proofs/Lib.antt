mod Common
mod Mapped
mod SameForms
mod FormsAfter
mod Scalars
mod Starters
mod Ranges
mod Rows
