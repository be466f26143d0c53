-- what a reader must believe: little-endian numbers, numbers in decimal
pub mod LittleEndian
pub mod Decimal
-- bytes put at a offset of a buffer
pub mod Writing
pub mod PutDecimal
pub mod Texts
