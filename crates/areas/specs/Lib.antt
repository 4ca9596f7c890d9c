pub mod LineSoFar
