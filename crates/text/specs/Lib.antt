-- What operators read and type: text that is written behind one another, the words of a line and the bytes that they mean, and lines as they arrive.
pub mod Ascii
pub mod Pages
pub mod Words
pub mod Arrivals
pub mod Meanings
