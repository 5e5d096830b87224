mod HalvesOfChats
pub mod LinesNotPrinted
