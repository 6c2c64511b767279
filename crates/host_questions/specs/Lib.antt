pub mod AskedNumbers
