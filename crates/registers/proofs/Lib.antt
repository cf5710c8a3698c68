mod FourRecords
