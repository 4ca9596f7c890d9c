-- `Line` and `Printed` prove what is claimed of a line's answer and of what is printed; `Run` and `SetsLemmas` have what they stand on.
pub mod Line
pub mod Printed
pub mod Run
pub mod SetsLemmas
