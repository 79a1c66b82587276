mod LinkBuilt
mod LinkLaid
mod LinkRow
mod EntryJudged
mod LinkJudged
mod LinkPlanned
