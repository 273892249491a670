pub mod Spelling
pub mod MetricName
pub mod LabelName
pub mod HelpText
pub mod LabelValue
pub mod Escapes
pub mod ByteText
