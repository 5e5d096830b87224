pub mod Keys
pub mod Lasts
pub mod Known
pub mod Judged
pub mod Copies
