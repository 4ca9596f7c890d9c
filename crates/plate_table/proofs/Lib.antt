-- `Plates` proves the table, `KeptLemmas` its rows of lists.
pub mod KeptLemmas
pub mod Plates
