mod WordSteps
mod NumberSteps
mod RowSteps
mod Prints
mod SolveSteps
