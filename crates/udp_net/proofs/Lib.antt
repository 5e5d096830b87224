pub mod KeepHosts
pub mod PushedForEach
pub mod TablesOfKeys
pub mod WordLaws
pub mod WrittenOverEach
