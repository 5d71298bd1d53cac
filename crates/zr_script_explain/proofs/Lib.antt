pub mod Keys
mod CaretPlaces
mod CaretSteps
mod CaretForms
mod CaretLinks
mod CaretQueries
mod CaretFound
mod Carets
