pub mod TokensStayInViews
pub mod TablesDelivered
pub mod TokensAcrossViews
pub mod TokensRiseInViews
pub mod GuardsRise
pub mod CommandsAreStamped
