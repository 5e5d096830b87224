pub mod Replicas
pub mod Deployments
pub mod Processes
pub mod Known
pub mod Carried
pub mod Said
pub mod Law
