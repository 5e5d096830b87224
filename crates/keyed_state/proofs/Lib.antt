pub mod KeysHavePlaces
pub mod LookUpsFind
pub mod PartsAppend
