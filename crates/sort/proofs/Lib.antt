-- `Order` has the laws of lists in order by a key, `Sunk` those of sorting by insertion, `Buckets` those of a pass by one digit,
-- `Digits` those of the passes together.
mod Order
mod Sunk
mod Buckets
mod Digits
