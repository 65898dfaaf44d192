-- Words and numbers: longest fronts, the table of the language, and the words of each class.
pub mod Fronts
pub mod Tables
pub mod Classes
pub mod EachByte
pub mod Bytes
pub mod Printed
pub mod IntegerValues
pub mod Ascii
pub mod EarlierTable
