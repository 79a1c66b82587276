mod FoundChild
mod RowAnswers
mod BuiltPuts
mod PlannedRmdir
