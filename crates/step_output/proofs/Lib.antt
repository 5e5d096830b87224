pub mod GrowthAdds
pub mod CalmAdds
