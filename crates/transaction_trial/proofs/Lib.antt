pub mod KeepsTurn
