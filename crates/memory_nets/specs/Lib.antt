pub mod MemoryNets
