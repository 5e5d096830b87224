pub mod Suspicion
