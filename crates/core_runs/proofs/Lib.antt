pub mod HistorySteps
