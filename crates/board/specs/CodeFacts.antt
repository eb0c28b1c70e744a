-- Why codes are exact and why the order of cells is total: the proofs stand here, below specs/, since the order of cells owes laws that rest on them.
pub mod Words
pub mod Digits
pub mod Codes
pub mod Ordered
